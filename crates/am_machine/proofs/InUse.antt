-- No step takes a mount that is in use.
use Rattle.std.proofs.Common.{◌≡◌, ◌∙◌, ℕ, ◌+◌, Bool, true, false, List, Some, refl, sym, ap, subst, inl, inr}
use Rattle.std.specs.Prelude.{is_some}
use Rattle.std.specs.List.{list_any}
use Rattle.am_names.specs.{MountRow, is_among}
use Rattle.am_state.specs.{Obs}
use Rattle.am_mount.specs.{mount_row, IsOn}
use Rattle.am_propagate.specs.MountTable.{MountTable}
use Rattle.am_names.specs.declared.membership.Membership.TheVariants.{Private}
use Rattle.am_propagate.specs.{is_mount, fs_in, membership_of, removed, IsWhole}
use Rattle.am_propagate.proofs.RemovalLemmas.{some_of}
use Rattle.am_expire.specs.{is_used}
use Rattle.am_kernel.specs.{trigger_position}
use Rattle.am_machine.specs.{Event, Answer, initial_state_of, Step, after, outcome_of, PlacesAgree, UnmountsNothingInUse, StepsUnmountNothingInUse}
use Rattle.am_machine.specs.State.{State}
use Rattle.am_machine.proofs.Places.Added.{mounted_grows}
use Rattle.am_machine.proofs.Places.Copies.{copy_grows}
use Rattle.am_machine.proofs.Places.Left.{removed_shrinks, any_among}
use Rattle.am_machine.proofs.Places.Changes as places
use Rattle.am_machine.proofs.Traces.Changes.{umount_free, plain_free, drop_free}
use Rattle.am_machine.proofs.Tour.Walks.{AnyPath}
use Rattle.am_machine.proofs.Tour.Events as tours
use Rattle.am_machine.proofs.Tour.Events.{AnyJob, any_event}
use Rattle.am_machine.proofs.Consistent.{initial_consistent, run_consistent, outcome_consistent}

-- ---- a mount that goes

-- a mount that goes is not in use
record Frees (s : State) (shown : List Obs) (t : State) : Type 0 where
  free : PlacesAgree s.kernel → (m : ℕ) → is_mount s.kernel.table m ≡ true → is_mount t.kernel.table m ≡ false → is_used s.kernel.uses m ≡ false

-- none goes
grows : (s t : State) (shown : List Obs) → (PlacesAgree s.kernel → (m : ℕ) (row : MountRow) → mount_row s.kernel.table.rows m ≡ Some row → mount_row t.kernel.table.rows m ≡ Some row) → Frees s shown t
grows s t shown stays = record {
  free = λ p m there gone.
      let row = some_of (mount_row s.kernel.table.rows m) there in
      let yes : is_mount t.kernel.table m ≡ true = ap is_some (stays p m row.0 row.1) in
      let no : true ≡ false = sym yes ∙ gone in
      absurd cc;
}

same : (s t : State) (shown : List Obs) → t.kernel.table ≡ s.kernel.table → Frees s shown t
same s t shown table = grows s t shown (λ p m row e. ap (λ (u : MountTable). mount_row u.rows m) table ∙ e)

false_by_cases : (b : Bool) → (b ≡ true → ⊥) → b ≡ false
false_by_cases true h = absurd (h refl)
false_by_cases false h = refl

-- of those that go none is in use
goes : (s t : State) (shown : List Obs) (gone : List ℕ) → t.kernel.table ≡ removed gone s.kernel.table → list_any (is_used s.kernel.uses) gone ≡ false → Frees s shown t
goes s t shown gone table unused = record {
  free = λ p m there left. by p m there left (is_among gone m) refl;
}
  where
    by : PlacesAgree s.kernel → (m : ℕ) → is_mount s.kernel.table m ≡ true → is_mount t.kernel.table m ≡ false → (b : Bool) → is_among gone m ≡ b → is_used s.kernel.uses m ≡ false
    by p m there left true is =
        false_by_cases (is_used s.kernel.uses m)
        (λ used. let no : true ≡ false = sym (any_among (is_used s.kernel.uses) gone m is used) ∙ unused in absurd cc)
    by p m there left false other =
        let row = some_of (mount_row s.kernel.table.rows m) there in
        let yes : is_mount t.kernel.table m ≡ true = ap (λ (u : MountTable). is_mount u m) table ∙ ap is_some ((removed_shrinks s.kernel.table p.whole gone).stays m row.0 other row.1) in
        let no : true ≡ false = sym yes ∙ left in
        absurd cc

frees : tours.Keeps AnyPath AnyJob places.KeepsBy Frees
frees = record {
  same = λ s. same s s _ refl;
  attached = λ s path point at is fresh may. grows s _ _ (λ p. (mounted_grows s.kernel.table p.whole at (s.kernel.last_fs + 1) Private).stays);
  mounted = λ s ns path at is may. grows s _ _ (λ p. (mounted_grows s.kernel.table p.whole at (s.kernel.last_fs + 1) Private).stays);
  bound = λ s source at may. grows s _ _ (λ p. (mounted_grows s.kernel.table p.whole at (fs_in (mount_row s.kernel.table.rows source.mount)) (membership_of s.kernel.table source.mount)).stays);
  unmounted = λ s at may. goes s _ _ _ refl (plain_free s.kernel at may);
  changed = λ s change at may. grows s _ _ (λ p m row e. e);
  copied = λ s ns form may. grows s _ _ (λ p. (copy_grows s.kernel.table p.whole ns form).stays);
  dropped = λ s ns may. goes s _ _ _ refl (drop_free (is_used s.kernel.uses) ns s.kernel.table may);
  walks = places.walks;
  walked = λ s shown k moment keeps. same s _ shown keeps.table;
  left = λ s walker mount is. same s _ _ refl;
  made_catatonic = λ s fs. same s _ _ refl;
  timed = λ s fs timeout. same s _ _ refl;
  died = λ s. same s _ _ refl;
  reattached = λ s fs row is dead. same s _ _ refl;
  delivered = λ s token row taken. same s _ _ refl;
  rested = λ s row a outcome i r. same s _ _ refl;
  directory_made = λ s row trigger i. same s _ _ refl;
  directory_gone = λ s row trigger i. same s _ _ refl;
  mounted_on = λ s row trigger entry i may. grows s _ _ (λ p. (mounted_grows s.kernel.table p.whole (trigger_position s.kernel trigger) (s.kernel.last_fs + 1) Private).stays);
  unmounted_on = λ s row trigger mount i u. goes s _ _ _ refl (umount_free (is_used s.kernel.uses) mount s.kernel.table u.tests);
  recorded = λ s row trigger entry i held. same s _ _ refl;
  replied = λ s row status its i is. same s _ _ refl;
}

-- what stays is mounted on what stays
mounted_on_none : (t : MountTable) → IsWhole t → (m : ℕ) → is_mount t m ≡ false → (c : ℕ) (row : MountRow) → mount_row t.rows c ≡ Some row → IsOn m row → ⊥
mounted_on_none t whole m gone c row e on =
    let parent = whole.parents c m row e on in
    let yes : is_mount t m ≡ true = ap is_some parent.1 in
    let no : true ≡ false = sym yes ∙ gone in
    absurd cc

outcome_frees : (s : State) (event : Event) → PlacesAgree s.kernel → PlacesAgree (after s (outcome_of s event)).kernel → UnmountsNothingInUse s (after s (outcome_of s event))
outcome_frees s event p q m there gone =
    let free = (tours.outcome AnyPath AnyJob places.KeepsBy Frees frees s event (any_event s event)).well.free p m there gone in
    (free, mounted_on_none (after s (outcome_of s event)).kernel.table q.whole m gone)

step_frees : (old : State) (event : Event) (answer : Answer) (seen : List Obs) (new : State) → PlacesAgree old.kernel → PlacesAgree (after old (outcome_of old event)).kernel → Step old event answer seen new → UnmountsNothingInUse old new
step_frees old event answer seen new p q (inl out) = subst (UnmountsNothingInUse old) (sym out.same) (λ m there gone. let no : true ≡ false = sym there ∙ gone in absurd cc)
step_frees old event answer seen new p q (inr comes) = subst (UnmountsNothingInUse old) (sym comes.left) (outcome_frees old event p q)

pub steps_free : StepsUnmountNothingInUse
steps_free opening events answers old run event answer seen new step =
    let h = run_consistent (initial_state_of opening) events answers old run (initial_consistent opening) in
    step_frees old event answer seen new h.agreed.places (outcome_consistent old event h).agreed.places step
