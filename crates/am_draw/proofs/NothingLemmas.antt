-- Where there is no event, the picture says so.
use Rattle.std.proofs.Common.{◌≡◌, ℕ, List, [], ◌∷◌, ◌++◌, Option, None, Result, Ok, refl, sym, ap, ◌∙◌, subst, ⊎_elim, append-nil}
use Rattle.std.specs.Io.KnownBytes.{Appends}
use Rattle.am_script.specs.{Closes, IsShort, IsWhole, Output, Owed, Puts, ScriptFault, Stands, Summary, bytes_of, fault_at, owed_by, without_world}
use Rattle.am_script.specs.declared.fault.ScriptFaultKind.TheVariants.{WriteFailed}
use Rattle.am_script.proofs.Lost.{InText, Behind, bytes_by, split_owed}
use Rattle.am_script.proofs.OwedLemmas.{stands_new}
use Rattle.am_draw.specs.{NothingEnds, NothingStops, empty_picture}

no_more : (left : List Owed) (first : Owed) (others : List Owed) → [] ≡ left ++ first ∷ others → ⊥
no_more [] first others e = cc
no_more (other ∷ left) first others e = cc

-- nothing is played
abbrev none : Summary
none = record { lines = 0; refused = 0 }

whole : (old new : Option (List ℕ)) (r : Result Summary ScriptFault) → IsWhole (Ok none) r (owed_by 1 empty_picture) old new → NothingEnds old new r
whole old new r w =
    subst (λ (t : Result Summary ScriptFault). NothingEnds old new t) (sym w.same)
    (record {
      no_fault = refl;
      written = subst (λ (t : List ℕ). Appends old new t) (bytes_by 1 empty_picture) w.written;
      lines = refl;
      refused = refl;
    })

lost_in : (old new : Option (List ℕ)) (line : ℕ) (front : List Owed) (first : Owed) → first.line ≡ line → Appends old new (bytes_of front) → InText 1 empty_picture front first → NothingStops (without_world None) old new (fault_at line WriteFailed)
lost_in old new line front first at written i = record {
  ends = refl;
  told = ap (λ (n : ℕ). fault_at n WriteFailed) (sym at ∙ i.line_is);
  taken = i.taken;
  short = i.short;
  written = subst (λ (t : List ℕ). Appends old new t) i.bytes written;
}

short : (old new : Option (List ℕ)) (r : Result Summary ScriptFault) → IsShort r (owed_by 1 empty_picture) old new → NothingEnds old new r
short old new r s =
    subst (λ (t : Result Summary ScriptFault). NothingEnds old new t) (sym s.told)
    (⊎_elim (lost_in old new s.line s.lost.front s.lost.first s.lost.line_is s.lost.written)
    (λ (i : Behind 1 empty_picture [] s.lost.front s.lost.first s.lost.others). absurd (no_more i.left s.lost.first s.lost.others i.rest_is))
    (split_owed 1 empty_picture [] s.lost.front s.lost.first s.lost.others (append-nil (owed_by 1 empty_picture) ∙ s.lost.parts)))

-- the picture of no event is put out, and what is kept goes to the writer
pub nothing_ends : (output mid : Output) (old held new : Option (List ℕ)) (r : Result Summary ScriptFault) → output.bytes.items ≡ [] → output.marks.items ≡ [] → output.line ≡ 1 → output.lost ≡ None → Puts output mid empty_picture old held → Closes mid (Ok none) held new r → NothingEnds old new r
nothing_ends output mid old held new r bytes marks line lost put closes =
    let stands = put.puts [] old (stands_new output.bytes.items output.marks.items output.line output.lost old bytes marks lost) in
    ⊎_elim (whole old new r) (short old new r)
    (closes (owed_by 1 empty_picture) old (subst (λ (n : ℕ). Stands mid (owed_by n empty_picture) old held) line stands))
