-- What is escaped reads back.
use Rattle.std.proofs.Common.{◌≡◌, ℕ, Bool, true, false, cond, ◌==◌, List, [], ◌∷◌, ◌++◌, Some, refl, sym, ap, ◌∙◌}
use Rattle.std.specs.Prelude.{codes}
use Rattle.std.specs.List.{flat_map}
use Rattle.std.proofs.lemmas.Bool.{eqb-true}
use Rattle.am_mount_lines.specs.Escapes.{escaped, with_byte, plain_of}

module _ (b : ℕ) (rest : List ℕ) where
  -- an escape stands for its byte
  stands_for : (other : ℕ) → (b == other) ≡ true →
      with_byte (Some other) (plain_of rest) ≡ with_byte (Some b) (plain_of rest)
  stands_for other e = ap (λ (n : ℕ). with_byte (Some n) (plain_of rest)) (sym (eqb-true b other e))

  at_backslash : (t : Bool) → (b == 92) ≡ t →
      plain_of (cond t (92 ∷ codes "134") (b ∷ []) ++ rest) ≡ with_byte (Some b) (plain_of rest)
  at_backslash true e = stands_for 92 e
  at_backslash false e = rw e refl

  at_line_feed : (t : Bool) → (b == 10) ≡ t →
      plain_of (cond t (92 ∷ codes "012") (cond (b == 92) (92 ∷ codes "134") (b ∷ [])) ++ rest) ≡
      with_byte (Some b) (plain_of rest)
  at_line_feed true e = stands_for 10 e
  at_line_feed false e = at_backslash (b == 92) refl

  at_tab : (t : Bool) → (b == 9) ≡ t →
      plain_of (cond t (92 ∷ codes "011") (cond (b == 10) (92 ∷ codes "012")
      (cond (b == 92) (92 ∷ codes "134") (b ∷ []))) ++ rest) ≡ with_byte (Some b) (plain_of rest)
  at_tab true e = stands_for 9 e
  at_tab false e = at_line_feed (b == 10) refl

  at_blank : (t : Bool) → (b == 32) ≡ t →
      plain_of (cond t (92 ∷ codes "040") (cond (b == 9) (92 ∷ codes "011") (cond (b == 10) (92 ∷ codes "012")
      (cond (b == 92) (92 ∷ codes "134") (b ∷ [])))) ++ rest) ≡ with_byte (Some b) (plain_of rest)
  at_blank true e = stands_for 32 e
  at_blank false e = at_tab (b == 9) refl

  byte_back : plain_of (escaped b ++ rest) ≡ with_byte (Some b) (plain_of rest)
  byte_back = at_blank (b == 32) refl

pub reads_back : (text : List ℕ) → plain_of (flat_map escaped text) ≡ Some text
reads_back [] = refl
reads_back (b ∷ text) = byte_back b (flat_map escaped text) ∙ ap (with_byte (Some b)) (reads_back text)
