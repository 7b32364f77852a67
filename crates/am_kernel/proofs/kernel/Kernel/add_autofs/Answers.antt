use Rattle.std.proofs.Common.{◌≡◌, ◌≤◌, ◌<◌, ◌+◌, ◌∷◌, ◌++◌, [], false, ℕ, List, refl, sym, ap, subst, ◌∙◌}
use Rattle.std.specs.List.{All}
use Rattle.am_trigger.specs.{Autofs, TriggerRows, add_refusal, with_autofs}
use Rattle.am_kernel.specs.{Attached}
use Rattle.am_kernel.specs.View.{AreAttached, AreGiven}
use Rattle.am_kernel.proofs.MountLemmas.{next_is_new, next_is_sound}
use Rattle.am_kernel.proofs.RisingLemmas.{below_next, given_next}
use Rattle.am_kernel.proofs.kernel.Kernel.add_autofs.Goals as goal

pub add_fs_reserved-requires-clause-fresh : goal.add_fs_reserved-requires-clause-fresh
add_fs_reserved-requires-clause-fresh c =
    ap (add_refusal (c.self.inside.last_fs + 1)) c.reserve_fs.ensures.rows ∙ next_is_new c.self.inside.last_fs c.self.inside.triggers.rows c.self.invariant.numbered

pub push_reserved-requires-clause-above : goal.push_reserved-requires-clause-above
push_reserved-requires-clause-above c =
    let last : ℕ = c.self.inside.last_fs in
    subst (λ (rows : List Attached). All (λ (r : Attached). r.fs < last + 1) rows) (sym c.reserve.ensures.rows)
    (below_next (λ (r : Attached). r.fs) last (last + 1) c.self.inside.attached.rows refl c.self.invariant.given)

pub push_reserved-requires-clause-latest : goal.push_reserved-requires-clause-latest
push_reserved-requires-clause-latest c =
    let last : ℕ = c.self.inside.last_attach in
    subst (λ (rows : List Attached). All (λ (r : Attached). r.attach < last + 1) rows) (sym c.reserve.ensures.rows)
    (below_next (λ (r : Attached). r.attach) last (last + 1) c.self.inside.attached.rows refl c.self.invariant.attached)

pub invariant_of-self-2 : goal.invariant_of-self-2
invariant_of-self-2 c =
    let last : ℕ = c.self.inside.last_fs in
    let old : List Autofs = c.self.inside.triggers.rows.autofs in
    let row : Autofs = record { fs = last + 1; direct = c.args.direct; location = c.in_ok-mount.mount; catatonic = false } in
    let rows : c.add_fs_reserved.new.self.rows.autofs ≡ old ++ row ∷ [] =
    ap (λ (t : TriggerRows). t.autofs) (c.add_fs_reserved.ensures.rows ∙ ap (with_autofs (last + 1) c.args.direct c.in_ok-mount.mount) c.reserve_fs.ensures.rows) in
    let new : Attached = record { fs = last + 1; attach = c.self.inside.last_attach + 1; timeout = c.args.timeout } in
    let attached : c.push_reserved.new.self.rows ≡ c.self.inside.attached.rows ++ new ∷ [] =
    c.push_reserved.ensures ∙ ap (λ (rs : List Attached). rs ++ new ∷ []) c.reserve.ensures.rows in
    record {
      numbered =
          subst (λ (n : ℕ). All (λ (r : Autofs). r.fs ≤ n) c.add_fs_reserved.new.self.rows.autofs) (sym c.fs.view_is)
          (subst (λ (rs : List Autofs). All (λ (r : Autofs). r.fs ≤ last + 1) rs) (sym rows) (next_is_sound last old row refl c.self.invariant.numbered));
      room = c.self.invariant.room;
      given =
          subst (λ (n : ℕ). AreGiven n c.push_reserved.new.self.rows) (sym c.fs.view_is)
          (subst (λ (rs : List Attached). AreGiven (last + 1) rs) (sym attached)
          (given_next (λ (r : Attached). r.fs) last c.self.inside.attached.rows new refl c.self.invariant.given));
      attached =
          subst (λ (n : ℕ). AreAttached n c.push_reserved.new.self.rows) (sym c.attach.view_is)
          (subst (λ (rs : List Attached). AreAttached (c.self.inside.last_attach + 1) rs) (sym attached)
          (given_next (λ (r : Attached). r.attach) c.self.inside.last_attach c.self.inside.attached.rows new refl c.self.invariant.attached));
      opened = c.self.invariant.opened;
    }
