-- Each change leaves all names names, and so does each event.
use Rattle.std.proofs.Common.{◌≡◌, ◌==◌, true, List, refl, subst}
use Rattle.std.specs.List.{All}
use Rattle.am_names.specs.declared.trigger.Trigger.{Trigger}
use Rattle.am_names.specs.{WaitRow}
use Rattle.am_state.specs.{Obs}
use Rattle.am_walk.specs.{Stop}
use Rattle.am_kernel.specs.{Attempt, WalkRow, KernelState, expiry_of, with_latest}
use Rattle.am_machine.specs.{Event, outcome_of, IsPath, HasPaths, is_named, WalksFit}
use Rattle.am_machine.specs.declared.event.Event.TheVariants as events
use Rattle.am_machine.specs.State.{State}
use Rattle.am_machine.proofs.Lists.Different.{all_found}
use Rattle.am_machine.proofs.Walks.Named.{IsNamed, IsNamedStop, walk_named}
use Rattle.am_machine.proofs.Walks.Rows.{IsAlongNames, same_rows, arrived_named, joined_named, notified_named, expiring_named, closed_named, acknowledged_named, freed_from_named}
use Rattle.am_machine.proofs.Tour.Picked.{picked_use}
use Rattle.am_machine.proofs.Tour.Walks as tour
use Rattle.am_machine.proofs.Tour.Walks.{Walking}
use Rattle.am_machine.proofs.Tour.Events as tours
use Rattle.am_machine.proofs.Tour.Events.{IsKnown, AnyJob}

-- ---- what walkers do

passed_named : (k : KernelState) (attempt : Attempt) (stop : Stop) (passed : List Trigger) → Walking IsPath k attempt stop passed → All IsNamed passed
passed_named k attempt stop passed w = subst (All IsNamed) w.passed_is (walk_named w.scene attempt.ns attempt.path w.path).passes

stop_named : (k : KernelState) (attempt : Attempt) (stop : Stop) (passed : List Trigger) → Walking IsPath k attempt stop passed → IsNamedStop stop
stop_named k attempt stop passed w = subst IsNamedStop w.stop_is (walk_named w.scene attempt.ns attempt.path w.path).stops

abbrev StaysNamed : KernelState → List Obs → KernelState → Type 0
StaysNamed k shown made = WalksFit k → WalksFit made

walks : tour.Keeps IsPath StaysNamed
walks = record {
  nothing = λ k h. h;
  arrived = λ k attempt at passed w h. arrived_named k attempt at.mount passed (passed_named k attempt _ passed w) h;
  joined = λ k attempt token passed w h. joined_named k attempt token passed w.path (passed_named k attempt _ passed w) h;
  notified = λ k attempt trigger attach passed w is h. notified_named k attempt trigger attach passed w.path (stop_named k attempt _ passed w) (passed_named k attempt _ passed w) h;
  expiring = λ k walker fs moment immediate trigger attach x h. expiring_named k walker trigger attach (picked_use IsNamed (expiry_of k fs moment immediate) trigger x.next h.used) h;
  made_catatonic = λ k fs h. closed_named fs k h;
  collected = λ k kind wait status moment shown made g later h.
      let own = all_found (λ (r : WaitRow). is_named r.trigger ≡ true) (λ (r : WaitRow). r.walker == wait.walker) k.waits.waits wait h.waits g.waits in
      later (freed_from_named kind wait moment k own h);
}

-- ---- events

-- where names are names they are so afterwards
record StateNamed (s : State) (shown : List Obs) (t : State) : Type 0 where
  names : WalksFit s.kernel → WalksFit t.kernel

-- what changes neither waits, nor walks, nor last uses
same : (s t : State) (shown : List Obs) → t.kernel.waits ≡ s.kernel.waits → t.kernel.walks ≡ s.kernel.walks → t.kernel.triggers.uses ≡ s.kernel.triggers.uses → StateNamed s shown t
same s t shown waits began uses = record { names = same_rows s.kernel t.kernel waits began uses }

named : tours.Keeps IsPath AnyJob StaysNamed StateNamed
named = record {
  same = λ s. record { names = λ h. h };
  attached = λ s path point at is fresh may. same s _ _ refl refl refl;
  mounted = λ s ns path at is may. same s _ _ refl refl refl;
  bound = λ s source at may. same s _ _ refl refl refl;
  unmounted = λ s at may. same s _ _ refl refl refl;
  changed = λ s change at may. same s _ _ refl refl refl;
  copied = λ s ns form may. same s _ _ refl refl refl;
  dropped = λ s ns may. same s _ _ refl refl refl;
  walks = walks;
  walked = λ s shown k moment stays. record { names = λ h. same_rows k (with_latest moment k) refl refl refl (stays h) };
  left = λ s walker mount is. same s _ _ refl refl refl;
  made_catatonic = λ s fs. record { names = closed_named fs s.kernel };
  timed = λ s fs timeout. same s _ _ refl refl refl;
  died = λ s. record { names = λ h. h };
  reattached = λ s fs row is dead. same s _ _ refl refl refl;
  delivered = λ s token row taken. same s _ _ refl refl refl;
  rested = λ s row a outcome i r. record { names = λ h. h };
  directory_made = λ s row trigger i. same s _ _ refl refl refl;
  directory_gone = λ s row trigger i. same s _ _ refl refl refl;
  mounted_on = λ s row trigger entry i may. same s _ _ refl refl refl;
  unmounted_on = λ s row trigger mount i u. same s _ _ refl refl refl;
  recorded = λ s row trigger entry i held. record { names = λ h. h };
  replied = λ s row status its i is. record { names = acknowledged_named row.token status s.kernel };
}

paths : (s : State) (event : Event) → HasPaths event → WalksFit s.kernel → IsKnown IsPath AnyJob s event
paths s (events.Walk walker ns path now pipe) along h = along
paths s (events.Resume walker now pipe) along h = λ other row e. all_found IsAlongNames (λ (r : WalkRow). r.walker == other) s.kernel.walks row h.walks e
paths s _ along h = tt

pub outcome_names : (s : State) (event : Event) → HasPaths event → WalksFit s.kernel → WalksFit (outcome_of s event).state.kernel
outcome_names s event along h = (tours.outcome IsPath AnyJob StaysNamed StateNamed named s event (paths s event along h)).well.names h
