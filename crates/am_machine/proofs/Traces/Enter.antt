-- A walker enters a mount, or leaves the one that it is inside of.
use Rattle.std.proofs.Common.{◌≡◌, ℕ, List, [], ◌∷◌, ◌++◌, Some, None, refl, arith}
use Rattle.am_state.specs.{Obs}
use Rattle.am_state.specs.declared.obs.Obs.TheVariants as seen
use Rattle.am_expire.specs.{mount_of_walker, entered, left}
use Rattle.am_expire.proofs.UseLemmas.{enters_count, enters_single, leaves_count, leaves_single}
use Rattle.am_laws.specs.{enters, leaves}
use Rattle.am_machine.specs.{Rows, FitsTrace}
use Rattle.am_machine.proofs.Lists.Counts.{count_cons, count_append}
use Rattle.am_machine.proofs.Traces.Unchanged.{known_quiet, opens_quiet, waiters_quiet, queued_quiet, delivered_more}

pub enter_fits : (r : Rows) (trace : List Obs) (walker mount : ℕ) → mount_of_walker r.uses walker ≡ None → FitsTrace r trace → FitsTrace (record r { uses = entered walker mount r.uses }) (trace ++ seen.Entered walker mount ∷ [])
enter_fits r trace walker mount idle h =
    let more = seen.Entered walker mount ∷ [] in
    record {
      sound = h.sound;
      single = enters_single r.uses (record { walker = walker; mount = mount }) h.single idle;
      known = known_quiet r.waits.last_token trace more refl h.known;
      opens = opens_quiet r.waits.tokens trace more refl h.opens;
      waiters = waiters_quiet r.waits.tokens trace more refl h.waiters;
      inside = λ m.
          let e = count_append (enters m) trace more in
          let one = count_cons (enters m) (seen.Entered walker mount) [] in
          let l = count_append (leaves m) trace more in
          let old = h.inside m in
          let now = enters_count r.uses (record { walker = walker; mount = mount }) m in
          omega (arith, e, one, l, old, now);
      queued = queued_quiet r.queue trace more refl h.queued;
      delivered = delivered_more r.jobs trace more h.delivered;
    }

pub leave_fits : (r : Rows) (trace : List Obs) (walker mount : ℕ) → mount_of_walker r.uses walker ≡ Some mount → FitsTrace r trace → FitsTrace (record r { uses = left walker r.uses }) (trace ++ seen.Left walker mount ∷ [])
leave_fits r trace walker mount is h =
    let more = seen.Left walker mount ∷ [] in
    record {
      sound = h.sound;
      single = leaves_single r.uses walker h.single;
      known = known_quiet r.waits.last_token trace more refl h.known;
      opens = opens_quiet r.waits.tokens trace more refl h.opens;
      waiters = waiters_quiet r.waits.tokens trace more refl h.waiters;
      inside = λ m.
          let e = count_append (enters m) trace more in
          let l = count_append (leaves m) trace more in
          let one = count_cons (leaves m) (seen.Left walker mount) [] in
          let old = h.inside m in
          let now = leaves_count r.uses walker mount h.single is m in
          omega (arith, e, l, one, old, now);
      queued = queued_quiet r.queue trace more refl h.queued;
      delivered = delivered_more r.jobs trace more h.delivered;
    }
