-- The events of a script are counted, with the lanes that they come to.
use Rattle.std.proofs.Common.{◌≡◌, ◌≢◌, ◌⊎◌, ℕ, ◌+◌, List, [], ◌∷◌, ◌++◌, length, Option, Some, Result, Ok, Err, IfOk, IfErr, refl, sym, ap, ◌∙◌, inl, inr, append_assoc, append-nil, arith}
use Rattle.std.proofs.lemmas.List.{length-append}
use Rattle.am_machine.specs.State.{State}
use Rattle.am_script.specs.{ScriptFault, ScriptFaultKind, fault_at, NoNext, Numbered, Told, told_by, only_fault, behind}
use Rattle.am_script.specs.declared.fault.ScriptFaultKind.TheVariants as kinds
use Rattle.am_draw.specs.{IsAtEvent, IsCounted, IsSizeOf, Lasts, NotCounted, Size, Viewed, ViewedRun, added, asked_in, counted_to, lanes_for, nothing_lasts, size_of}
use Rattle.am_draw.proofs.BarLemmas.{lanes_push}
use Rattle.am_draw.proofs.ChangeLemmas.{lanes_last}
use Rattle.am_draw.proofs.RunLemmas.{asked_push, run_more}

-- so many events, and these lanes
abbrev pub sized : ℕ → Lasts → Size
sized events lasts = record {
  events = events;
  walkers = length lasts.walkers;
  tokens = length lasts.tokens;
  systems = length lasts.systems;
  daemon = length lasts.daemon;
  failures = length lasts.failures;
  negative = lasts.negative;
}

-- of all events these are left, and those before are counted
pub record Counting (start : State) (all left : Told) (events : ℕ) (lasts : Lasts) (now : State) : Type 0 where
  pub rows : List Viewed
  pub parted : all ≡ behind (asked_in rows) left
  pub run : ViewedRun start rows now
  pub counted : events ≡ length rows
  pub adds : lasts ≡ lanes_for start rows

pub counting_none : (start : State) (all : Told) (lasts : Lasts) → lasts ≡ nothing_lasts 0 0 0 0 0 start.kernel.negative → Counting start all all 0 lasts start
counting_none start all lasts e = record { rows = []; parted = refl; run = refl; counted = refl; adds = e }

pub counting_more : (start : State) (all left more : Told) (events number : ℕ) (lasts next_lasts : Lasts) (s next : State) (asked : Numbered) → number ≡ events + 1 → left ≡ told_by (Ok (Some asked.event)) asked.line more → IsCounted number s asked next lasts next_lasts → Counting start all left events lasts s → Counting start all more (events + 1) next_lasts next
counting_more start all left more events number lasts next_lasts s next asked n e counted h =
    let row : Viewed = counted.row in
    let is : number ≡ 1 + length h.rows = omega (arith, n, h.counted) in
    let told : left ≡ told_by (Ok (Some row.asked.event)) row.asked.line more = e ∙ ap (λ (a : Numbered). told_by (Ok (Some a.event)) a.line more) (sym counted.is) in record {
      rows = h.rows ++ row ∷ [];
      parted = h.parted ∙ ap (behind (asked_in h.rows)) told ∙ ap (λ (rows : List Numbered). record more { events = rows }) (sym (append_assoc (asked_in h.rows) (row.asked ∷ []) more.events)) ∙ ap (λ (rows : List Numbered). behind rows more) (sym (asked_push h.rows row));
      run = run_more start h.rows s row next h.run counted.views;
      counted = rw (length-append h.rows (row ∷ [])) (ap (λ (n : ℕ). n + 1) h.counted);
      adds =
          counted.adds
          ∙ ap (λ (n : ℕ). added n lasts row.asked.event row.seen row.after) is
          ∙ ap (λ (l : Lasts). added (1 + length h.rows) l row.asked.event row.seen row.after) h.adds
          ∙ sym (lanes_push 1 (nothing_lasts 0 0 0 0 0 start.kernel.negative) h.rows row);
    }

-- all are counted
pub counting_ends : (start : State) (all : Told) (fault : Option ScriptFault) (left : Told) (events : ℕ) (lasts : Lasts) (now : State) → left ≡ only_fault fault → Counting start all left events lasts now → IsSizeOf start all (sized events lasts)
counting_ends start all fault left events lasts now e h = record {
  all = h.rows;
  asked = ap (λ (t : Told). t.events) (h.parted ∙ ap (behind (asked_in h.rows)) e) ∙ append-nil (asked_in h.rows);
  ends = now;
  run = h.run;
  counted =
      ap (λ (n : ℕ). sized n lasts) h.counted
      ∙ ap (sized (length h.rows)) h.adds
      ∙ ap (λ (n : ℕ). record (size_of start h.rows) { negative = n }) (lanes_last start h.rows);
}

fault_place : (start : State) (all left : Told) (events : ℕ) (lasts : Lasts) (now : State) (fault : ScriptFault) → Counting start all left events lasts now → NoNext left fault → (all.fault ≡ Some fault) ⊎ IsAtEvent all fault
fault_place start all left events lasts now fault h (inl e) = inl (ap (λ (t : Told). t.fault) (h.parted ∙ ap (behind (asked_in h.rows)) e))
fault_place start all left events lasts now fault h (inr none) = inr (record {
  done = asked_in h.rows;
  here = none.here;
  others = none.others.events;
  parted = ap (λ (t : Told). t.events) (h.parted ∙ ap (behind (asked_in h.rows)) none.parted);
  line = none.line;
})

-- memory ran out for this event
pub counting_fails : (start : State) (all left more : Told) (events : ℕ) (lasts : Lasts) (now : State) (asked : Numbered) → left ≡ told_by (Ok (Some asked.event)) asked.line more → Counting start all left events lasts now → NotCounted all (fault_at asked.line kinds.NoMemory)
counting_fails start all left more events lasts now asked e h = record {
  kind = refl;
  place = inr (record {
    done = asked_in h.rows;
    here = asked;
    others = more.events;
    parted = ap (λ (t : Told). t.events) (h.parted ∙ ap (behind (asked_in h.rows)) e);
    line = refl;
  });
}

-- how counting ends at a fault
abbrev pub CountsTo : State → Told → Lasts → Result ℕ ScriptFault → Type 0
CountsTo start all lasts (Ok events) = IsSizeOf start all (sized events lasts)
CountsTo start all lasts (Err fault) = NotCounted all fault

-- it isn't for want of memory
all_counted : (start : State) (all left : Told) (events : ℕ) (lasts : Lasts) (now : State) (fault : ScriptFault) → fault.kind ≢ kinds.NoMemory → Counting start all left events lasts now → NoNext left fault → IsSizeOf start all (sized events lasts)
all_counted start all left events lasts now fault other h (inl e) = counting_ends start all (Some fault) left events lasts now e h
all_counted start all left events lasts now fault other h (inr none) = absurd (other none.kind)

pub counting_stops : (start : State) (all left : Told) (events : ℕ) (lasts : Lasts) (now : State) (fault : ScriptFault) (kind : ScriptFaultKind) → fault.kind ≡ kind → Counting start all left events lasts now → NoNext left fault → CountsTo start all lasts (counted_to events kind fault)
counting_stops start all left events lasts now fault kinds.NoMemory e h none = record { kind = e; place = fault_place start all left events lasts now fault h none }
counting_stops start all left events lasts now fault kind e h none = all_counted start all left events lasts now fault (λ f. cc) h none

pub counts_ok : (start : State) (all : Told) (lasts : Lasts) (r : Result ℕ ScriptFault) → CountsTo start all lasts r → IfOk r (λ events. IsSizeOf start all (sized events lasts))
counts_ok start all lasts (Ok events) h = h
counts_ok start all lasts (Err fault) h = tt

pub counts_err : (start : State) (all : Told) (lasts : Lasts) (r : Result ℕ ScriptFault) → CountsTo start all lasts r → IfErr r (NotCounted all)
counts_err start all lasts (Ok events) h = tt
counts_err start all lasts (Err fault) h = h
