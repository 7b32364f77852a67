-- The lines of a mountinfo are taken one by one.
use Rattle.std.proofs.Common.{◌≡◌, ℕ, ◌+◌, Bool, true, false, cond, List, [], ◌∷◌, ◌++◌, length, Option, Some, None, Result, Ok, Err, OnOk, refl, sym, ap, ap₂, ◌∙◌, subst, append_assoc}
use Rattle.std.proofs.lemmas.List.{append-nil, length-append}
use Rattle.am_lines.specs.{words_of}
use Rattle.am_mount_lines.specs.{IsLine, LineFault, MountLine, misfit_of, IsFaultOf}
use Rattle.am_mount_lines.specs.declared.misfit.LineFault.TheVariants as line_faults
use Rattle.am_script.specs.{are_skipped, lines_in, lines_of}
use Rattle.am_import.specs.declared.imports.ImportFault.{ImportFault}
use Rattle.am_import.specs.declared.imports.ImportFault.TheVariants.{BadLine, NoMemory, NotPlayed, ReadFailed, WriteFailed}
use Rattle.am_import.specs.declared.imports.Mounts.{Mounts}
use Rattle.am_import.specs.Imported.{AreMounts, AreMountsOf, IsUnread, begins_space, mount_texts}
use Rattle.am_import.specs.Taken.{IsFaultAt, IsNotTaken, IsTaken}

-- ---- one line

-- what comes of a line that is no heading
abbrev no_heading : ℕ → Bool → List ℕ → List (List ℕ) → List (ℕ × List ℕ)
no_heading space used line lines =
    cond (are_skipped (words_of line)) (mount_texts space used lines) ((space, line) ∷ mount_texts space true lines)

-- what comes of any line
abbrev any_line : Bool → ℕ → Bool → List ℕ → List (List ℕ) → List (ℕ × List ℕ)
any_line heading space used line lines =
    cond heading (mount_texts (cond used (space + 1) space) false lines) (no_heading space used line lines)

pub heading_taken : (line : List ℕ) (old new : Mounts) → begins_space line ≡ true → new.space ≡ cond old.is_used (old.space + 1) old.space → new.is_used ≡ false → new.lines.items ≡ old.lines.items → IsTaken line old new
heading_taken line old new heading space used same = record {
  texts = [];
  made = [];
  are_read = tt;
  behind = same ∙ sym (append-nil old.lines.items);
  goes_on = λ lines. ap (λ (b : Bool). any_line b old.space old.is_used line lines) heading ∙ ap₂ (λ (s : ℕ) (u : Bool). mount_texts s u lines) (sym space) (sym used);
}

pub comment_taken : (line : List ℕ) (mounts : Mounts) → begins_space line ≡ false → are_skipped (words_of line) ≡ true → IsTaken line mounts mounts
comment_taken line mounts heading comment = record {
  texts = [];
  made = [];
  are_read = tt;
  behind = sym (append-nil mounts.lines.items);
  goes_on = λ lines. ap (λ (b : Bool). any_line b mounts.space mounts.is_used line lines) heading ∙ ap (λ (b : Bool). cond b (mount_texts mounts.space mounts.is_used lines) ((mounts.space, line) ∷ mount_texts mounts.space true lines)) comment;
}

pub mount_taken : (line : List ℕ) (old new : Mounts) (mount : MountLine) → begins_space line ≡ false → are_skipped (words_of line) ≡ false → IsLine old.space (words_of line) mount → new.lines.items ≡ old.lines.items ++ mount ∷ [] → new.space ≡ old.space → new.is_used ≡ true → IsTaken line old new
mount_taken line old new mount heading comment is_line behind space used = record {
  texts = (old.space, line) ∷ [];
  made = mount ∷ [];
  are_read = (is_line, tt);
  behind = behind;
  goes_on = λ lines. ap (λ (b : Bool). any_line b old.space old.is_used line lines) heading ∙ ap (λ (b : Bool). cond b (mount_texts old.space old.is_used lines) ((old.space, line) ∷ mount_texts old.space true lines)) comment ∙ ap (λ (texts : List (ℕ × List ℕ)). (old.space, line) ∷ texts) (ap₂ (λ (s : ℕ) (u : Bool). mount_texts s u lines) (sym space) (sym used));
}

-- the same where that is done
pub heading_done : {A : Type 0} (r : Result A ImportFault) (line : List ℕ) (old new : Mounts) → begins_space line ≡ true → OnOk r (new.space ≡ cond old.is_used (old.space + 1) old.space) → OnOk r (new.is_used ≡ false) → new.lines.items ≡ old.lines.items → OnOk r (IsTaken line old new)
heading_done (Err fault) line old new heading space used same = tt
heading_done (Ok done) line old new heading space used same = heading_taken line old new heading space used same

pub mount_done : {A : Type 0} (r : Result A ImportFault) (line : List ℕ) (old new : Mounts) (mount : MountLine) → begins_space line ≡ false → are_skipped (words_of line) ≡ false → IsLine old.space (words_of line) mount → OnOk r (new.lines.items ≡ old.lines.items ++ mount ∷ []) → new.space ≡ old.space → OnOk r (new.is_used ≡ true) → OnOk r (IsTaken line old new)
mount_done (Err fault) line old new mount heading comment is_line behind space used = tt
mount_done (Ok done) line old new mount heading comment is_line behind space used = mount_taken line old new mount heading comment is_line behind space used

-- a line with a misfit isn't taken
pub fault_not_taken : (number : ℕ) (line : List ℕ) (fault : LineFault) (told : ImportFault) → begins_space line ≡ false → are_skipped (words_of line) ≡ false → IsFaultOf (misfit_of (words_of line)) fault → IsFaultAt number line fault told → IsNotTaken number line told
fault_not_taken number line (line_faults.Misfit misfit) (BadLine other column what) heading comment found at = (
  at.numbered,
  record {
    no_heading = heading;
    no_comment = comment;
    misfit = misfit;
    misfit_is = found;
    at = at.at;
    expected_is = at.expected_is;
  },
)
fault_not_taken number line (line_faults.Misfit misfit) NoMemory heading comment found at = absurd at
fault_not_taken number line (line_faults.Misfit misfit) ReadFailed heading comment found at = absurd at
fault_not_taken number line (line_faults.Misfit misfit) NotPlayed heading comment found at = absurd at
fault_not_taken number line (line_faults.Misfit misfit) WriteFailed heading comment found at = absurd at
fault_not_taken number line line_faults.NoMemory told heading comment found at = subst (λ (f : ImportFault). IsNotTaken number line f) (sym at) tt

-- no memory for a line
pub no_memory : (number : ℕ) (line : List ℕ) (fault : ImportFault) → fault ≡ NoMemory → IsNotTaken number line fault
no_memory number line fault e = subst (λ (f : ImportFault). IsNotTaken number line f) (sym e) tt

-- ---- all lines

-- so many lines of the text were taken, and these are left
pub record Reading (text : List ℕ) (rest : Option (List ℕ)) (number : ℕ) (mounts : Mounts) : Type 0 where
  pub above : List (List ℕ)
  pub parts : lines_of text ≡ above ++ lines_in rest
  pub counted : number ≡ length above
  pub made : AreMounts (mount_texts 0 false above) mounts.lines.items
  pub goes_on : (below : List (List ℕ)) → mount_texts 0 false (above ++ below) ≡ mount_texts 0 false above ++ mount_texts mounts.space mounts.is_used below

pub reading_begins : (text : List ℕ) (mounts : Mounts) → mounts.lines.items ≡ [] → mounts.space ≡ 0 → mounts.is_used ≡ false → Reading text (Some text) 0 mounts
reading_begins text mounts none space used = record {
  above = [];
  parts = refl;
  counted = refl;
  made = subst (λ (ms : List MountLine). AreMounts [] ms) (sym none) tt;
  goes_on = λ below. ap₂ (λ (s : ℕ) (u : Bool). mount_texts s u below) (sym space) (sym used);
}

-- mounts behind others
are_both : (xs ys : List (ℕ × List ℕ)) (ms ns : List MountLine) → AreMounts xs ms → AreMounts ys ns → AreMounts (xs ++ ys) (ms ++ ns)
are_both [] ys [] ns one two = two
are_both [] ys (m ∷ ms) ns one two = absurd one
are_both (x ∷ xs) ys [] ns one two = absurd one
are_both (x ∷ xs) ys (m ∷ ms) ns one two = (one.0, are_both xs ys ms ns one.1 two)

pub reading_more : (text here line : List ℕ) (behind : Option (List ℕ)) (number next : ℕ) (old new : Mounts) → next ≡ number + 1 → lines_of here ≡ line ∷ lines_in behind → Reading text (Some here) number old → IsTaken line old new → Reading text behind next new
reading_more text here line behind number next old new more cut h taken =
    let texts = mount_texts 0 false h.above in
    let one : mount_texts 0 false (h.above ++ line ∷ []) ≡ texts ++ taken.texts = h.goes_on (line ∷ []) ∙ ap (λ (ts : List (ℕ × List ℕ)). texts ++ ts) (taken.goes_on [] ∙ append-nil taken.texts) in record {
      above = h.above ++ line ∷ [];
      parts = h.parts ∙ ap (λ (ls : List (List ℕ)). h.above ++ ls) cut ∙ sym (append_assoc h.above (line ∷ []) (lines_in behind));
      counted = more ∙ ap (λ (n : ℕ). n + 1) h.counted ∙ sym (length-append h.above (line ∷ []));
      made = subst (λ (ts : List (ℕ × List ℕ)). AreMounts ts new.lines.items) (sym one) (subst (λ (ms : List MountLine). AreMounts (texts ++ taken.texts) ms) (sym taken.behind) (are_both texts taken.texts old.lines.items taken.made h.made taken.are_read));
      goes_on = λ below.
          ap (λ (ls : List (List ℕ)). mount_texts 0 false ls) (append_assoc h.above (line ∷ []) below)
          ∙ h.goes_on (line ∷ below)
          ∙ ap (λ (ts : List (ℕ × List ℕ)). texts ++ ts) (taken.goes_on below)
          ∙ sym (append_assoc texts taken.texts (mount_texts new.space new.is_used below))
          ∙ ap (λ (ts : List (ℕ × List ℕ)). ts ++ mount_texts new.space new.is_used below) (sym one);
    }

pub reading_ends : (text : List ℕ) (number : ℕ) (mounts : Mounts) → Reading text None number mounts → AreMountsOf text mounts.lines.items
reading_ends text number mounts h =
    subst (λ (ls : List (List ℕ)). AreMounts (mount_texts 0 false ls) mounts.lines.items) (sym (h.parts ∙ append-nil h.above)) h.made

pub reading_fails : (text here line : List ℕ) (behind : Option (List ℕ)) (number next : ℕ) (mounts : Mounts) (fault : ImportFault) → next ≡ number + 1 → lines_of here ≡ line ∷ lines_in behind → Reading text (Some here) number mounts → IsNotTaken next line fault → IsUnread (lines_of text) fault
reading_fails text here line behind number next mounts (BadLine other column what) more cut h bad = record {
  above = h.above;
  bad = line;
  below = lines_in behind;
  stands = h.parts ∙ ap (λ (ls : List (List ℕ)). h.above ++ ls) cut;
  numbered = bad.0 ∙ more ∙ ap (λ (n : ℕ). n + 1) h.counted;
  mounts = mounts.lines.items;
  are_read = h.made;
  no_heading = bad.1.no_heading;
  no_comment = bad.1.no_comment;
  misfit = bad.1.misfit;
  misfit_is = bad.1.misfit_is;
  at = bad.1.at;
  expected_is = bad.1.expected_is;
}
reading_fails text here line behind number next mounts NoMemory more cut h bad = tt
reading_fails text here line behind number next mounts ReadFailed more cut h bad = absurd bad
reading_fails text here line behind number next mounts NotPlayed more cut h bad = absurd bad
reading_fails text here line behind number next mounts WriteFailed more cut h bad = absurd bad
