-- A text that is put out alone is written, or a beginning of it.
use Rattle.std.proofs.Common.{◌≡◌, ℕ, List, [], ◌∷◌, ◌++◌, Option, None, Result, Ok, Err, OnOk, IfOk, IfErr, refl, sym, ◌∙◌, subst, ⊎_elim, append-nil}
use Rattle.std.specs.Io.KnownBytes.{Appends}
use Rattle.am_script.specs.{ScriptFault, Output, Summary, fault_at, Owed, owed_by, IsLost, Stands, Settles, Puts, IsWhole, IsShort, Closes}
use Rattle.am_script.specs.declared.fault.ScriptFaultKind.TheVariants.{WriteFailed}
use Rattle.am_script.proofs.Lost.{bytes_by, InText, Behind, split_owed}
use Rattle.am_script.proofs.OwedLemmas.{stands_new}
use Rattle.am_mountinfo.specs.{IsCut}

-- how a text is written, which is told at this line
abbrev pub TextEnds : ℕ → List ℕ → Summary → Option (List ℕ) → Option (List ℕ) → Result Summary ScriptFault → Type 0
TextEnds line text summary old new (Ok told) = (told ≡ summary) × Appends old new text
TextEnds line text summary old new (Err fault) = IsCut line text old new fault

nothing_behind : (left : List Owed) (first : Owed) (others : List Owed) → [] ≡ left ++ first ∷ others → {A : Type 0} → A
nothing_behind [] first others e = absurd cc
nothing_behind (o ∷ left) first others e = absurd cc

cut_text : (line at : ℕ) (text : List ℕ) (old new : Option (List ℕ)) → IsLost (owed_by line text) at old new → IsCut line text old new (fault_at at WriteFailed)
cut_text line at text old new lost =
    ⊎_elim (λ (i : InText line text lost.front lost.first). record {
      loss = refl;
      line_is = sym lost.line_is ∙ i.line_is;
      taken = i.taken;
      short = i.short;
      written = subst (λ (t : List ℕ). Appends old new t) i.bytes lost.written;
    }) (λ (i : Behind line text [] lost.front lost.first lost.others). nothing_behind i.left lost.first lost.others i.rest_is) (split_owed line text [] lost.front lost.first lost.others (append-nil (owed_by line text) ∙ lost.parts))

pub text_ends : (fresh begun done : Output) (line : ℕ) (text : List ℕ) (summary : Summary) (old now held new : Option (List ℕ)) (r : Result Summary ScriptFault) → fresh.bytes.items ≡ [] → fresh.marks.items ≡ [] → fresh.lost ≡ None → Settles fresh begun old now → begun.line ≡ line → Puts begun done text now held → Closes done (Ok summary) held new r → TextEnds line text summary old new r
text_ends fresh begun done line text summary old now held new r e f g settles is put closes =
    let none = stands_new fresh.bytes.items fresh.marks.items fresh.line fresh.lost old e f g in
    let all = put.puts [] old (settles [] old none) in
    let here : Stands done (owed_by line text) old held = subst (λ (n : ℕ). Stands done (owed_by n text) old held) is all in
    ⊎_elim (λ (w : IsWhole (Ok summary) r (owed_by line text) old new).
    subst (λ (t : Result Summary ScriptFault). TextEnds line text summary old new t) (sym w.same)
    (refl, subst (λ (t : List ℕ). Appends old new t) (bytes_by line text) w.written))
    (λ (s : IsShort r (owed_by line text) old new).
    subst (λ (t : Result Summary ScriptFault). TextEnds line text summary old new t) (sym s.told)
    (cut_text line s.line text old new s.lost))
    (closes (owed_by line text) old here)

pub ends_same : (line : ℕ) (text : List ℕ) (summary : Summary) (old new : Option (List ℕ)) (r : Result Summary ScriptFault) → TextEnds line text summary old new r → IfOk r (λ (told : Summary). told ≡ summary)
ends_same line text summary old new (Ok told) h = h.0
ends_same line text summary old new (Err fault) h = tt

pub ends_ok : (line : ℕ) (text : List ℕ) (summary : Summary) (old new : Option (List ℕ)) (r : Result Summary ScriptFault) → TextEnds line text summary old new r → OnOk r (Appends old new text)
ends_ok line text summary old new (Ok told) h = h.1
ends_ok line text summary old new (Err fault) h = tt

pub ends_err : (line : ℕ) (text : List ℕ) (summary : Summary) (old new : Option (List ℕ)) (r : Result Summary ScriptFault) → TextEnds line text summary old new r → IfErr r (IsCut line text old new)
ends_err line text summary old new (Ok told) h = tt
ends_err line text summary old new (Err fault) h = h
