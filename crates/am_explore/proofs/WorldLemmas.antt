-- The text of a world is one, whatever was observed.
use Rattle.std.proofs.Common.{◌≡◌, ℕ, Bool, true, false, not, List, ◌++◌, refl, sym, ap, subst, ◌∙◌}
use Rattle.std.specs.Prelude.{IsTrue, ◌↔◌, None}
use Rattle.am_names.specs.{MountRow, is_among}
use Rattle.am_machine.specs.State.{State}
use Rattle.am_propagate.proofs.RemovalLemmas.{among_contains, among_from}
use Rattle.am_propagate.proofs.UnmountLemmas.{rising_same}
use Rattle.am_world.proofs.BehindLemmas.{traced}
use Rattle.am_mountinfo.specs.Mountinfo.{AreNamespaces, namespaces_text}
use Rattle.am_mountinfo.specs.Notes.{notes}
use Rattle.am_mountinfo.specs.WorldText.{IsText}
use Rattle.am_world.specs.{HaveEqualHalves}
use Rattle.am_explore.specs.WorldLines.{TextHas, has_line}

-- two tests of which each holds where the other does
same_test : (a b : Bool) → (a ≡ true → b ≡ true) → (b ≡ true → a ≡ true) → a ≡ b
same_test true b to from = sym (to refl)
same_test false true to from = from refl
same_test false false to from = refl

-- the namespaces of a world stand in one order
one_order : (rows : List MountRow) (xs ys : List ℕ) → AreNamespaces rows xs → AreNamespaces rows ys → xs ≡ ys
one_order rows xs ys one other = rising_same xs ys one.rising other.rising
    (λ n. same_test (is_among xs n) (is_among ys n)
    (λ h. among_from n ys ((other.each n).1 ((one.each n).0 (among_contains n xs h))))
    (λ h. among_from n xs ((one.each n).1 ((other.each n).0 (among_contains n ys h)))))

one_text : (s : State) (text other : List ℕ) → IsText None s text → IsText None s other → text ≡ other
one_text s text other one more =
    one.2 ∙ ap (λ (order : List ℕ). namespaces_text s.kernel order ++ notes s)
    (one_order s.kernel.table.rows one.0 more.0 one.1 more.1) ∙ sym more.2

-- whether it has a line is told in one way
one_answer : (sought : List ℕ) (s : State) (a b : Bool) → TextHas sought s a → TextHas sought s b → a ≡ b
one_answer sought s a b one other =
    one.2 ∙ ap (λ (text : List ℕ). has_line sought text) (one_text s one.0 other.0 one.1 other.1) ∙ sym other.2

pub shows_decides : (sought : List ℕ) (s : State) (has : Bool) → TextHas sought s has
    → IsTrue has ↔ TextHas sought s true
shows_decides sought s has here =
    (λ h. subst (λ (b : Bool). TextHas sought s b) h here, λ there. one_answer sought s has true here there)

not_true : (b : Bool) → not b ≡ true → b ≡ false
not_true true h = sym h
not_true false h = refl

pub lacks_decides : (sought : List ℕ) (s : State) (has : Bool) → TextHas sought s has
    → IsTrue (not has) ↔ TextHas sought s false
lacks_decides sought s has here = (
  λ h. subst (λ (b : Bool). TextHas sought s b) (not_true has h) here,
  λ there. ap not (one_answer sought s has false here there),
)

-- it doesn't rest on what was observed
pub like_text : (sought : List ℕ) (s t : State) (has : Bool) → HaveEqualHalves s t → TextHas sought s has
    → TextHas sought t has
like_text sought s t has halves here =
    let same : traced t.trace s
    ≡ t = λ i. record { kernel = halves.kernel i; daemon = halves.daemon i; trace = t.trace } in
    (here.0, subst (λ (x : State). IsText None x here.0) same here.1, here.2)
