use Rattle.std.proofs.Common.{◌≡◌, ◌<◌, ◌+◌, ◌∷◌, ◌++◌, [], ℕ, List, Option, Some, length, take, arith, rules, refl, sym, ap, subst, ◌∙◌, append_assoc}
use Rattle.std.specs.Prelude.{filter_map, option_map}
use Rattle.std.specs.List.{Contains}
use Rattle.std.specs.Option.{option_to_list}
use Rattle.std.proofs.lemmas.List.{length_push}
use Rattle.am_names.specs.{MountRow}
use Rattle.am_mount.specs.{mount_row}
use Rattle.am_propagate.specs.Copying.{AreBelow}
use Rattle.am_propagate.specs.Namespaces.{copy_number, row_in}
use Rattle.am_propagate.proofs.CopyingLemmas.{still_there, below_next}
use Rattle.am_propagate.proofs.LoopLemmas.{gives_more}
use Rattle.am_propagate.proofs.SearchLemmas.{counted_at}
use Rattle.am_propagate.proofs.UnmountLemmas.{found_number}
use Rattle.am_propagate.proofs.subtree.namespace.add_rows_in.Goals as goal

pub add_row_in-requires-clause-number : goal.add_row_in-requires-clause-number
add_row_in-requires-clause-number c =
    let within : c.loop-at.at < length c.args.mounts.now = search rules in
    counted_at c.args.last c.args.mounts.now c.requires.rising c.loop-at.at c.index-mounts-at.result (c.args.last + c.loop-at.at) within c.index-mounts-at.is refl

pub loop-at-preserved : goal.loop-at-preserved
loop-at-preserved c =
    let rows = c.args.tree.now in
    let mounts = c.args.mounts.now in
    let tree = c.loop-at.tree in
    let i = c.loop-at.at in
    let m = c.index-mounts-at.result in
    let f : MountRow → MountRow = row_in (copy_number c.args.last mounts) c.args.to in
    let h : ℕ → Option MountRow = λ x. option_map f (mount_row rows x) in
    let within : i < length mounts = search rules in
    let among : Contains mounts m = (i, within, sym c.index-mounts-at.is) in
    let here = c.requires.there m among in
    let now : mount_row tree m ≡ Some here.0 =
    ap (λ (xs : List MountRow). mount_row xs m) c.loop-at.invariant.rows ∙ still_there rows (filter_map h (take i mounts)) m here.0 here.1 in
    let came : c.add_row_in.new.tree ≡ tree ++ f here.0 ∷ [] =
    c.in_default.ensures.ok ∙ ap (λ (o : Option MountRow). tree ++ option_to_list (option_map f o)) now in
    let number : (f here.0).mount ≡ c.args.last + i + 1 =
    ap (copy_number c.args.last mounts) (found_number rows m here.0 here.1) ∙
    sym (counted_at c.args.last mounts c.requires.rising i m (c.args.last + i) within c.index-mounts-at.is refl) in
    let long : length (tree ++ f here.0 ∷ []) ≡ length tree + 1 = length_push tree (f here.0) ∙ omega arith in
    let before : length tree ≡ length rows + i = c.loop-at.invariant.count in
    let next : c.args.last + i + 1 + 1 ≡ c.args.last + (i + 1) + 1 = omega arith in
    record {
      rows = came ∙ ap (λ (xs : List MountRow). xs ++ f here.0 ∷ []) c.loop-at.invariant.rows ∙
          append_assoc rows (filter_map h (take i mounts)) (f here.0 ∷ []) ∙
          ap (λ (xs : List MountRow). rows ++ xs) (sym (gives_more h mounts i m within c.index-mounts-at.is (f here.0) (ap (option_map f) here.1)));
      count = ap (λ (xs : List MountRow). length xs) came ∙ long ∙ omega (arith, before);
      below = subst (λ (n : ℕ). AreBelow n c.add_row_in.new.tree) next
          (subst (λ (xs : List MountRow). AreBelow (c.args.last + i + 1 + 1) xs) (sym came)
          (below_next tree (f here.0) (c.args.last + i + 1) c.loop-at.invariant.below number));
    }
