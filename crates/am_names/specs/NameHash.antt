-- Equal names are hashed alike: own choice of what is hashed, a name's bytes alone.
use Rattle.std.specs.Prelude.{◌≡◌, ℕ, List, ◌-◌, IsTrue, ◌&&◌, ◌==◌, length, take, replicate}
use Rattle.std.specs.Cmp.{first_so, second_so}
use Rattle.std.specs.Cmp.Lexicographic.{pointwise, same_text}
use Rattle.std.proofs.Common.{sym, ap, ◌∙◌}
use Rattle.std.proofs.Math.Seq.{take-append_seam}
use Rattle.std.proofs.lemmas.Bool.Decides.{Decides-eqb}
use Rattle.am_names.specs.Name.{padded, hashed}

-- padded texts of one length that are the same are of the same text
texts_same : (x y : List ℕ) → padded x ≡ padded y → length x ≡ length y → x ≡ y
texts_same x y p e =
    sym (take-append_seam x (replicate (255 - length x) 0)) ∙
    ap (λ b. take (length x) b) p ∙
    ap (λ n. take n (padded y)) e ∙
    take-append_seam y (replicate (255 - length y) 0)

-- names that are compared as equal are hashed alike
pub same_hashed :
    (x y : List ℕ) →
    IsTrue (pointwise (λ a b. a == b) (padded x) (padded y) && (length x == length y)) →
    hashed x ≡ hashed y
same_hashed x y h =
    let p = first_so (pointwise (λ a b. a == b) (padded x) (padded y)) (length x == length y) h in
    let e = second_so (pointwise (λ a b. a == b) (padded x) (padded y)) (length x == length y) h in
    let long = (Decides-eqb (length x) (length y)).0 e in
    ap hashed (texts_same x y (same_text (padded x) (padded y) (sym p)) long)
