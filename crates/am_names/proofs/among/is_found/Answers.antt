use Rattle.std.proofs.Common.{ℕ, rules, ◌∙◌}
use Rattle.std.proofs.lemmas.List.Sorted.{answers_always}
use Rattle.am_names.proofs.SearchLemmas.{found_among}
use Rattle.am_names.proofs.among.is_found.Goals as goal

pub returns : goal.returns
returns c =
    let by_number = c.binary_search_by_key.ensures.position (λ (g : ℕ). g)
    (answers_always _ _ _ (λ f a r g called. search rules)) in
    rw (← c.mount.view_is) (c.is_ok.ensures.value ∙ found_among c.args.mounts.now c.mount.inside.0 _ by_number c.requires)
