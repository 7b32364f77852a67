-- What is kept goes to the writer.
use Rattle.std.proofs.Common.{◌≡◌, ℕ, List, [], ◌++◌, Option, Some, None, Result, Err, refl, sym, ap, ◌∙◌, subst, inl, inr}
use Rattle.std.specs.Io.KnownBytes.{Appends}
use Rattle.std.proofs.lemmas.List.{append-nil}
use Rattle.am_script.specs.{ScriptFault, Output, Summary, fault_at, Owed, owed_by, bytes_of, owed_from, IsLost, StandsBy, Settles, Puts, Closes}
use Rattle.am_script.specs.declared.fault.ScriptFaultKind.TheVariants.{WriteFailed}
use Rattle.am_script.proofs.Lost.{bytes_by}
use Rattle.am_script.proofs.OwedLemmas.{stands_new}

pub lost_by : (lost : Option ℕ) (line : ℕ) (owed all : List Owed) (old new : Option (List ℕ)) → lost ≡ Some line → StandsBy lost owed all old new → IsLost all line old new
lost_by lost line owed all old new e h = subst (λ (l : Option ℕ). StandsBy l owed all old new) e h

whole_by : (lost : Option ℕ) (owed all : List Owed) (old new : Option (List ℕ)) → lost ≡ None → owed ≡ [] → StandsBy lost owed all old new → Appends old new (bytes_of all)
whole_by (Some line) owed all old new e f h = absurd cc
whole_by None owed all old new e f h =
    subst (λ (t : List Owed). Appends old new (bytes_of t)) (sym (h.parts ∙ ap (λ (t : List Owed). h.front ++ t) f ∙ append-nil h.front)) h.written

pub closes_whole : (kept : Output) (output : Output) (ended : Result Summary ScriptFault) (held holds : Option (List ℕ)) → Settles kept output held holds → output.lost ≡ None → output.bytes.items ≡ [] → Closes kept ended held holds ended
closes_whole kept output ended held holds settles e f = λ all start h.
    let stands = settles all start h in
    inl (record {
      same = refl;
      written = whole_by output.lost (owed_from output.marks.items output.line 0 output.bytes.items) all start holds e (ap (owed_from output.marks.items output.line 0) f) stands.owes;
    })

pub closes_short : (kept : Output) (output : Output) (ended : Result Summary ScriptFault) (line : ℕ) (held holds : Option (List ℕ)) → Settles kept output held holds → output.lost ≡ Some line → Closes kept ended held holds (Err (fault_at line WriteFailed))
closes_short kept output ended line held holds settles e = λ all start h.
    let stands = settles all start h in
    inr (record { line = line; told = refl; lost = lost_by output.lost line _ all start holds e stands.owes })

-- one answer is put out alone, and written
pub pushed : (fresh mid done : Output) (text old now new : List ℕ) → fresh.bytes.items ≡ [] → fresh.marks.items ≡ [] → fresh.lost ≡ None → Puts fresh mid text (Some old) (Some now) → Settles mid done (Some now) (Some new) → done.lost ≡ None → done.bytes.items ≡ [] → new ≡ old ++ text
pushed fresh mid done text old now new e f g put settles lost empty =
    let begun = stands_new fresh.bytes.items fresh.marks.items fresh.line fresh.lost (Some old) e f g in
    let stands = settles ([] ++ owed_by fresh.line text) (Some old) (put.puts [] (Some old) begun) in
    let all = whole_by done.lost (owed_from done.marks.items done.line 0 done.bytes.items) ([] ++ owed_by fresh.line text) (Some old) (Some new) lost (ap (owed_from done.marks.items done.line 0) empty) stands.owes in
    subst (λ (t : List ℕ). new ≡ old ++ t) (bytes_by fresh.line text) all
