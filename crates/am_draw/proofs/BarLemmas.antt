-- One observation more changes what lasts, and one event more.
use Rattle.std.proofs.Common.{◌≡◌, ◌<◌, ◌+◌, ℕ, List, [], ◌∷◌, ◌++◌, length, take, get_or, refl, sym, ap, ◌∙◌, add-zero, arith}
use Rattle.std.proofs.lemmas.List.{take_more}
use Rattle.am_state.specs.{Obs}
use Rattle.am_draw.specs.{Lasts, Part, Viewed, added, added_behind, changed, lasts_behind, next_lasts, roomed, seen_added, seen_behind}

pub behind_push : (n : ℕ) (lasts : Lasts) (seen : List Obs) (obs : Obs) → seen_behind n lasts (seen ++ obs ∷ []) ≡ changed n (seen_behind n lasts seen) obs
behind_push n lasts [] obs = refl
behind_push n lasts (first ∷ seen) obs = behind_push n (changed n lasts first) seen obs

pub behind_next : (n : ℕ) (lasts now next : Lasts) (seen : List Obs) (i : ℕ) (obs : Obs) → i < length seen → obs ≡ get_or seen i obs → now ≡ seen_behind n lasts (take i seen) → next ≡ changed n now obs → next ≡ seen_behind n lasts (take (i + 1) seen)
behind_next n lasts now next seen i obs inside item is new =
    new
    ∙ ap (λ (l : Lasts). changed n l obs) is
    ∙ ap (λ (o : Obs). changed n (seen_behind n lasts (take i seen)) o) item
    ∙ sym (ap (seen_behind n lasts) (take_more seen i obs inside) ∙ behind_push n lasts (take i seen) (get_or seen i obs))

added_push : (n : ℕ) (lasts : Lasts) (seen : List Obs) (obs : Obs) → seen_added n lasts (seen ++ obs ∷ []) ≡ changed n (roomed (seen_added n lasts seen) obs) obs
added_push n lasts [] obs = refl
added_push n lasts (first ∷ seen) obs = added_push n (changed n (roomed lasts first) first) seen obs

pub added_next : (n : ℕ) (lasts now room next : Lasts) (seen : List Obs) (i : ℕ) (obs : Obs) → i < length seen → obs ≡ get_or seen i obs → now ≡ seen_added n lasts (take i seen) → room ≡ roomed now obs → next ≡ changed n room obs → next ≡ seen_added n lasts (take (i + 1) seen)
added_next n lasts now room next seen i obs inside item is has new =
    new
    ∙ ap (λ (l : Lasts). changed n l obs) (has ∙ ap (λ (l : Lasts). roomed l obs) is)
    ∙ ap (λ (o : Obs). changed n (roomed (seen_added n lasts (take i seen)) o) o) item
    ∙ sym (ap (seen_added n lasts) (take_more seen i obs inside) ∙ added_push n lasts (take i seen) (get_or seen i obs))

-- ---- one event more

pub lasting_push : (part : Part) (number : ℕ) (lasts : Lasts) (rows : List Viewed) (row : Viewed) → lasts_behind part number lasts (rows ++ row ∷ []) ≡ next_lasts part (number + length rows) (lasts_behind part number lasts rows) row.asked.event row.seen row.after
lasting_push part number lasts [] row = rw add-zero refl
lasting_push part number lasts (first ∷ rows) row =
    lasting_push part (number + 1) (next_lasts part number lasts first.asked.event first.seen first.after) rows row
    ∙ ap (λ (n : ℕ). next_lasts part n (lasts_behind part (number + 1) (next_lasts part number lasts first.asked.event first.seen first.after) rows) row.asked.event row.seen row.after) (omega arith)

pub lanes_push : (number : ℕ) (lasts : Lasts) (rows : List Viewed) (row : Viewed) → added_behind number lasts (rows ++ row ∷ []) ≡ added (number + length rows) (added_behind number lasts rows) row.asked.event row.seen row.after
lanes_push number lasts [] row = rw add-zero refl
lanes_push number lasts (first ∷ rows) row =
    lanes_push (number + 1) (added number lasts first.asked.event first.seen first.after) rows row
    ∙ ap (λ (n : ℕ). added n (added_behind (number + 1) (added number lasts first.asked.event first.seen first.after) rows) row.asked.event row.seen row.after) (omega arith)
