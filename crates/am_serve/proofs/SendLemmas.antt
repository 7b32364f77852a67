-- What is written, or a beginning of it.
use Rattle.std.proofs.Common.{◌≡◌, ◌≢◌, ◌⊎◌, ◌+◌, ℕ, List, [], ◌∷◌, ◌++◌, length, take, Option, None, Result, Ok, Err, OnOk, IfErr, IsOk, refl, sym, ap, ◌∙◌, subst, ⊎_elim, inl, inr, append-nil, arith, length-append, codes}
use Rattle.std.proofs.Math.Seq.{take-append-add}
use Rattle.std.proofs.lemmas.Bool.{false≢true}
use Rattle.std.proofs.lemmas.List.{take-append-le}
use Rattle.std.specs.Io.KnownBytes.{Appends}
use Rattle.am_script.specs.{ScriptFault, ScriptFaultKind, Output, Summary, fault_at, Owed, owed_by, IsLost, Stands, Settles, Puts, IsWhole, IsShort, Closes}
use Rattle.am_script.specs.declared.fault.ScriptFaultKind.TheVariants.{NoMemory, NoSuchNamespace, WriteFailed}
use Rattle.am_script.proofs.Lost.{bytes_by, InText, Behind, split_owed}
use Rattle.am_script.proofs.OwedLemmas.{stands_new}
use Rattle.am_script.proofs.Writes.{appends_more}
use Rattle.am_mountinfo.specs.{IsCut, IsNowhere, IsWritten, NotWritten}
use Rattle.am_mountinfo.specs.WorldText.{IsText, NoRoomToWrite}
use Rattle.am_session.specs.{Session}
use Rattle.am_serve.specs.Replies.{IsSaid, IsUnsaid, closed}
use Rattle.am_serve.specs.Tellings.{IsWorldText, fault_text}
use Rattle.am_serve.specs.Words.{kind_word}
use Rattle.am_world.specs.Capacity.{state_of}

-- how a text is written, which is told at this line
abbrev pub TextEnds : ℕ → List ℕ → Option (List ℕ) → Option (List ℕ) → Result Summary ScriptFault → Type 0
TextEnds line text old new (Ok told) = Appends old new text
TextEnds line text old new (Err fault) = IsCut line text old new fault

nothing_behind : (left : List Owed) (first : Owed) (others : List Owed) → [] ≡ left ++ first ∷ others → {A : Type 0} → A
nothing_behind [] first others e = absurd cc
nothing_behind (o ∷ left) first others e = absurd cc

cut_text : (line at : ℕ) (text : List ℕ) (old new : Option (List ℕ)) → IsLost (owed_by line text) at old new → IsCut line text old new (fault_at at WriteFailed)
cut_text line at text old new lost =
    ⊎_elim (λ (i : InText line text lost.front lost.first). record {
      loss = refl;
      line_is = sym lost.line_is ∙ i.line_is;
      taken = i.taken;
      short = i.short;
      written = subst (λ (t : List ℕ). Appends old new t) i.bytes lost.written;
    }) (λ (i : Behind line text [] lost.front lost.first lost.others). nothing_behind i.left lost.first lost.others i.rest_is) (split_owed line text [] lost.front lost.first lost.others (append-nil (owed_by line text) ∙ lost.parts))

-- a text that is put out alone is written, or a beginning of it
pub text_ends : (fresh begun done : Output) (line : ℕ) (text : List ℕ) (summary : Summary) (old now held new : Option (List ℕ)) (r : Result Summary ScriptFault) → fresh.bytes.items ≡ [] → fresh.marks.items ≡ [] → fresh.lost ≡ None → Settles fresh begun old now → begun.line ≡ line → Puts begun done text now held → Closes done (Ok summary) held new r → TextEnds line text old new r
text_ends fresh begun done line text summary old now held new r e f g settles is put closes =
    let none = stands_new fresh.bytes.items fresh.marks.items fresh.line fresh.lost old e f g in
    let all = put.puts [] old (settles [] old none) in
    let here : Stands done (owed_by line text) old held = subst (λ (n : ℕ). Stands done (owed_by n text) old held) is all in
    ⊎_elim (λ (w : IsWhole (Ok summary) r (owed_by line text) old new).
    subst (λ (t : Result Summary ScriptFault). TextEnds line text old new t) (sym w.same)
    (subst (λ (t : List ℕ). Appends old new t) (bytes_by line text) w.written))
    (λ (s : IsShort r (owed_by line text) old new).
    subst (λ (t : Result Summary ScriptFault). TextEnds line text old new t) (sym s.told)
    (cut_text line s.line text old new s.lost))
    (closes (owed_by line text) old here)

pub ends_sent : {U : Type 0} (line : ℕ) (text : List ℕ) (old new : Option (List ℕ)) (r : Result Summary ScriptFault) (e : Result U ScriptFault) → TextEnds line text old new r → OnOk e (IsOk r) → OnOk e (Appends old new text)
ends_sent line text old new (Ok told) (Ok done) h is = h
ends_sent line text old new (Ok told) (Err fault) h is = tt
ends_sent line text old new (Err fault) (Ok done) h is = absurd (false≢true is)
ends_sent line text old new (Err fault) (Err same) h is = tt

pub ends_unsent : {U : Type 0} (line : ℕ) (text : List ℕ) (old new : Option (List ℕ)) (r : Result Summary ScriptFault) (e : Result U ScriptFault) → TextEnds line text old new r → IfErr e (λ fault. r ≡ Err fault) → IfErr e (IsCut line text old new)
ends_unsent line text old new r (Ok done) h is = tt
ends_unsent line text old new r (Err fault) h is = subst (λ (t : Result Summary ScriptFault). TextEnds line text old new t) is h

-- ---- a world, and the line that ends its reply

-- a text is written, and a beginning of another
pub cut_behind : (line : ℕ) (xs ys : List ℕ) (old mid new : Option (List ℕ)) (fault : ScriptFault) → Appends old mid xs → IsCut line ys mid new fault → IsCut line (xs ++ ys) old new fault
cut_behind line xs ys old mid new fault before cut = record {
  loss = cut.loss;
  line_is = cut.line_is;
  taken = length xs + cut.taken;
  short = omega (arith, cut.short, length-append xs ys);
  written = subst (λ (t : List ℕ). Appends old new t) (sym (take-append-add xs ys cut.taken)) (appends_more old mid new xs (take cut.taken ys) before cut.written);
}

-- a beginning of a text is one of it with more behind it
cut_before : (line at : ℕ) (xs ys : List ℕ) (old new : Option (List ℕ)) (fault : ScriptFault) → IsCut at xs old new fault → IsCut line (xs ++ ys) old new (fault_at line WriteFailed)
cut_before line at xs ys old new fault cut = record {
  loss = refl;
  line_is = refl;
  taken = cut.taken;
  short = omega (arith, cut.short, length-append xs ys);
  written = subst (λ (t : List ℕ). Appends old new t) (sym (take-append-le cut.taken xs ys (omega (arith, cut.short)))) cut.written;
}

pub world_said : (only : Option ℕ) (lines : ℕ) (session : Session) (old mid new : Option (List ℕ)) → IsWritten only (state_of session.world) old mid → Appends mid new (closed []) → IsSaid (IsWorldText only lines session) old new
world_said only lines session old mid new world dot =
    (world.text, inl world.shows, appends_more old mid new world.text (closed []) world.written dot)

pub world_unsaid : (only : Option ℕ) (lines number : ℕ) (session : Session) (old mid new : Option (List ℕ)) (fault : ScriptFault) → IsWritten only (state_of session.world) old mid → IsCut number (closed []) mid new fault → IsUnsaid (IsWorldText only lines session) number old new fault
world_unsaid only lines number session old mid new fault world cut =
    (world.text, inl world.shows, cut_behind number world.text (closed []) old mid new fault world.written cut)

-- the writer fails
pub world_cut : (only : Option ℕ) (lines number : ℕ) (session : Session) (old new : Option (List ℕ)) (fault : ScriptFault) → fault.kind ≡ WriteFailed → NotWritten only (state_of session.world) 0 old new fault → IsUnsaid (IsWorldText only lines session) number old new (fault_at number WriteFailed)
world_cut only lines number session old new fault loss (inl nowhere) = absurd (let other : NoSuchNamespace ≡ WriteFailed = sym nowhere.kind ∙ loss in cc)
world_cut only lines number session old new fault loss (inr (inl room)) = absurd (let other : NoMemory ≡ WriteFailed = sym room.kind ∙ loss in cc)
world_cut only lines number session old new fault loss (inr (inr cut)) =
    (cut.0, inl cut.1, cut_before number 0 cut.0 (codes ".\n") old new fault cut.2)

-- no world is written, which is told
pub no_world : (only : Option ℕ) (lines : ℕ) (session : Session) (old new : Option (List ℕ)) (fault : ScriptFault) → fault.kind ≢ WriteFailed → NotWritten only (state_of session.world) 0 old new fault → IsWorldText only lines session (fault_text (lines + 1) (kind_word fault.kind) None) × Appends old new []
unfolding state_of
no_world only lines session old new fault other (inl nowhere) =
    (inr (inl (nowhere.nowhere, ap (λ (k : ScriptFaultKind). fault_text (lines + 1) (kind_word k) None) nowhere.kind)), nowhere.written)
no_world only lines session old new fault other (inr (inl room)) =
    (inr (inr (ap (λ (k : ScriptFaultKind). fault_text (lines + 1) (kind_word k) None) room.kind)), room.written)
no_world only lines session old new fault other (inr (inr cut)) = absurd (other cut.2.loss)

pub no_world_said : (only : Option ℕ) (lines : ℕ) (session : Session) (old mid new : Option (List ℕ)) (fault : ScriptFault) → fault.kind ≢ WriteFailed → NotWritten only (state_of session.world) 0 old mid fault → Appends mid new (closed (fault_text (lines + 1) (kind_word fault.kind) None)) → IsSaid (IsWorldText only lines session) old new
no_world_said only lines session old mid new fault other none written =
    let told = no_world only lines session old mid fault other none in
    (fault_text (lines + 1) (kind_word fault.kind) None, told.0, appends_more old mid new [] (closed (fault_text (lines + 1) (kind_word fault.kind) None)) told.1 written)

pub no_world_unsaid : (only : Option ℕ) (lines number : ℕ) (session : Session) (old mid new : Option (List ℕ)) (fault lost : ScriptFault) → fault.kind ≢ WriteFailed → NotWritten only (state_of session.world) 0 old mid fault → IsCut number (closed (fault_text (lines + 1) (kind_word fault.kind) None)) mid new lost → IsUnsaid (IsWorldText only lines session) number old new lost
no_world_unsaid only lines number session old mid new fault lost other none cut =
    let told = no_world only lines session old mid fault other none in
    (fault_text (lines + 1) (kind_word fault.kind) None, told.0, cut_behind number [] (closed (fault_text (lines + 1) (kind_word fault.kind) None)) old mid new lost told.1 cut)
