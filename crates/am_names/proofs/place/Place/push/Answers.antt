use Rattle.std.proofs.Common.{◌≡◌, ◌+◌, ◌++◌, ◌∷◌, [], ℕ, List, length, length-append, sym, ap, subst, ◌∙◌, append_assoc, arith}
use Rattle.std.specs.Prelude.{Result, Ok, Err, OnOk}
use Rattle.std.specs.Result.{IsOk}
use Rattle.am_names.specs.{IsCanonical, names_of}
use Rattle.am_names.proofs.PathLemmas.{pushed}
use Rattle.am_names.proofs.place.Place.push.Goals as goal

-- what holds where a call is done, of one that is
told : {T E P : Type 0} (r : Result T E) → IsOk r → OnOk r P → P
told (Ok x) done p = p
told (Err e) done p = absurd cc

-- the room for the name was made
text_is : (c : goal.After-extend_from_slice) → c.extend_from_slice.new.self.items ≡ c.self.inside.text.items ++ 47 ∷ c.as_bytes-bytes.result.now
text_is c =
    let name = c.as_bytes-bytes.result.now in
    let longer : length c.push_reserved.new.self.items ≡ length c.reserve.new.self.items + 1 =
    ap length c.push_reserved.ensures.items ∙ length-append c.reserve.new.self.items (47 ∷ []) in
    let done : IsOk c.extend_from_slice.result =
    c.extend_from_slice.ensures.succeeds (omega (arith, c.in_ok-reserve.ensures.ok, longer, c.push_reserved.ensures.capacity)) in
    let before : c.push_reserved.new.self.items ≡ c.self.inside.text.items ++ 47 ∷ [] = c.push_reserved.ensures.items ∙ ap (λ (t : List ℕ). t ++ 47 ∷ []) c.reserve.ensures.items in
    told c.extend_from_slice.result done c.extend_from_slice.ensures.ok ∙ ap (λ (t : List ℕ). t ++ name) before ∙ append_assoc c.self.inside.text.items (47 ∷ []) name

pub invariant_of-self-2 : goal.invariant_of-self-2
invariant_of-self-2 c = subst IsCanonical (sym (text_is c)) (pushed _ _ c.self.invariant c.as_bytes-bytes.ensures.name).canonical

always : {T E P : Type 0} (r : Result T E) → P → OnOk r P
always (Ok x) p = p
always (Err e) p = tt

pub returns-clause-ok : goal.returns-clause-ok
returns-clause-ok c =
    let name = c.as_bytes-bytes.result.now in
    let old = c.self.inside.text.items in
    always c.extend_from_slice.result
    (ap names_of (text_is c) ∙ (pushed old name c.self.invariant c.as_bytes-bytes.ensures.name).names ∙ ap (λ (names : List (List ℕ)). names ++ name ∷ []) c.self.view_is ∙ ap (λ (n : List ℕ). c.args.self.now ++ n ∷ []) c.as_bytes-bytes.ensures.bytes)
