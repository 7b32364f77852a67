-- The first event of which a writer didn't take all.
use Rattle.std.proofs.Common.{◌≡◌, ◌⊎◌, ◌<◌, ℕ, suc, List, [], ◌∷◌, ◌++◌, length, take, drop, refl, sym, ap, ap₂, ◌∙◌, append_assoc, append-nil, ⊎_elim, inl, inr, arith}
use Rattle.std.proofs.lemmas.Grind.{flat_map-append}
use Rattle.am_script.proofs.OwedLemmas.{bytes_more}
use Rattle.am_script.specs.{Owed, owed_by, bytes_of, Form, Shown, owed_for, written_of}

pub owed_push : (form : Form) → (rows : List Shown) (row : Shown) → owed_for form (rows ++ row ∷ []) ≡ owed_for form rows ++ owed_by row.asked.line (form.text row)
owed_push form rows row =
    flat_map-append (λ (r : Shown). owed_by r.asked.line (form.text r)) rows (row ∷ [])
    ∙ ap (λ (t : List Owed). owed_for form rows ++ t) (append-nil (owed_by row.asked.line (form.text row)))

pub bytes_by : (line : ℕ) (text : List ℕ) → bytes_of (owed_by line text) ≡ text
bytes_by line [] = refl
bytes_by line (b ∷ text) = ap (λ (t : List ℕ). b ∷ t) (bytes_by line text)

pub bytes_for : (form : Form) → (rows : List Shown) → bytes_of (owed_for form rows) ≡ written_of form rows
bytes_for form [] = refl
bytes_for form (row ∷ rows) =
    bytes_more (owed_by row.asked.line (form.text row)) (owed_for form rows)
    ∙ ap₂ (λ (x y : List ℕ). x ++ y) (bytes_by row.asked.line (form.text row)) (bytes_for form rows)

-- ---- a byte of some event

abbrev first_or : Owed → List Owed → Owed
first_or d [] = d
first_or d (o ∷ owed) = o

-- it is one of this text
pub record InText (line : ℕ) (text : List ℕ) (front : List Owed) (first : Owed) : Type 0 where
  pub taken : ℕ
  pub short : taken < length text
  pub line_is : first.line ≡ line
  pub bytes : bytes_of front ≡ take taken text

-- it comes behind this text
pub record Behind (line : ℕ) (text : List ℕ) (rest front : List Owed) (first : Owed) (others : List Owed) : Type 0 where
  pub left : List Owed
  pub front_is : front ≡ owed_by line text ++ left
  pub rest_is : rest ≡ left ++ first ∷ others

pub split_owed : (line : ℕ) (text : List ℕ) (rest front : List Owed) (first : Owed) (others : List Owed) → owed_by line text ++ rest ≡ front ++ first ∷ others → InText line text front first ⊎ Behind line text rest front first others
split_owed line [] rest front first others e = inr (record { left = front; front_is = refl; rest_is = e })
split_owed line (b ∷ text) rest [] first others e = inl (record {
  taken = 0;
  short = omega arith;
  line_is = sym (ap (λ (t : List Owed). (first_or first t).line) e);
  bytes = refl;
})
split_owed line (b ∷ text) rest (f ∷ front) first others e =
    let head : record { byte = b; line = line } ≡ f = ap (first_or f) e in
    ⊎_elim (λ (i : InText line text front first). inl (record {
      taken = suc i.taken;
      short = omega (arith, i.short);
      line_is = i.line_is;
      bytes = ap₂ (λ (x : ℕ) (y : List ℕ). x ∷ y) (sym (ap (λ (o : Owed). o.byte) head)) i.bytes;
    })) (λ (i : Behind line text rest front first others). inr (record {
      left = i.left;
      front_is = ap₂ (λ (x : Owed) (y : List Owed). x ∷ y) (sym head) i.front_is;
      rest_is = i.rest_is;
    })) (split_owed line text rest front first others (ap (drop 1) e))

-- the event that has the byte
pub record Within (form : Form) (rows : List Shown) (front : List Owed) (first : Owed) : Type 0 where
  pub done : List Shown
  pub here : Shown
  pub others : List Shown
  pub parted : rows ≡ (done ++ here ∷ []) ++ others
  pub line_is : first.line ≡ here.asked.line
  pub taken : ℕ
  pub short : taken < length (form.text here)
  pub bytes : bytes_of front ≡ written_of form done ++ take taken (form.text here)

behind_one : (form : Form) → (row : Shown) (rows : List Shown) (front : List Owed) (first : Owed) (others : List Owed) (i : Behind row.asked.line (form.text row) (owed_for form rows) front first others) → Within form rows i.left first → Within form (row ∷ rows) front first
behind_one form row rows front first others i w = record {
  done = row ∷ w.done;
  here = w.here;
  others = w.others;
  parted = ap (λ (t : List Shown). row ∷ t) w.parted;
  line_is = w.line_is;
  taken = w.taken;
  short = w.short;
  bytes =
      ap bytes_of i.front_is
      ∙ bytes_more (owed_by row.asked.line (form.text row)) i.left
      ∙ ap₂ (λ (x y : List ℕ). x ++ y) (bytes_by row.asked.line (form.text row)) w.bytes
      ∙ sym (append_assoc (form.text row) (written_of form w.done) (take w.taken (form.text w.here)));
}

pub within_some : (form : Form) → (rows : List Shown) (front : List Owed) (first : Owed) (others : List Owed) → owed_for form rows ≡ front ++ first ∷ others → Within form rows front first
within_some form [] [] first others e = absurd cc
within_some form [] (f ∷ front) first others e = absurd cc
within_some form (row ∷ rows) front first others e =
    ⊎_elim (λ (i : InText row.asked.line (form.text row) front first). record {
      done = [];
      here = row;
      others = rows;
      parted = refl;
      line_is = i.line_is;
      taken = i.taken;
      short = i.short;
      bytes = i.bytes;
    }) (λ (i : Behind row.asked.line (form.text row) (owed_for form rows) front first others). behind_one form row rows front first others i (within_some form rows i.left first others i.rest_is)) (split_owed row.asked.line (form.text row) (owed_for form rows) front first others e)
