-- The first line of which a writer didn't take all that is drawn for it.
use Rattle.std.proofs.Common.{◌≡◌, ◌<◌, ℕ, List, [], ◌∷◌, ◌++◌, length, take, refl, sym, ap, ap₂, ◌∙◌, append_assoc, append-nil, ⊎_elim}
use Rattle.std.specs.List.{flat_map}
use Rattle.std.proofs.lemmas.Grind.{flat_map-append}
use Rattle.am_script.specs.{Owed, owed_by, bytes_of}
use Rattle.am_script.proofs.Lost.{bytes_by, InText, Behind, split_owed}
use Rattle.am_script.proofs.OwedLemmas.{bytes_more}
use Rattle.am_draw.specs.{Piece, bytes_in}

-- the bytes of these pieces
abbrev pub owed_for : List Piece → List Owed
owed_for pieces = flat_map (λ piece. owed_by piece.line piece.bytes) pieces

pub owed_more : (pieces others : List Piece) → owed_for (pieces ++ others) ≡ owed_for pieces ++ owed_for others
owed_more pieces others = flat_map-append (λ (p : Piece). owed_by p.line p.bytes) pieces others

pub owed_one : (piece : Piece) → owed_for (piece ∷ []) ≡ owed_by piece.line piece.bytes
owed_one piece = append-nil (owed_by piece.line piece.bytes)

pub bytes_for : (pieces : List Piece) → bytes_of (owed_for pieces) ≡ bytes_in pieces
bytes_for [] = refl
bytes_for (piece ∷ pieces) =
    bytes_more (owed_by piece.line piece.bytes) (owed_for pieces)
    ∙ ap₂ (λ (x y : List ℕ). x ++ y) (bytes_by piece.line piece.bytes) (bytes_for pieces)

-- the piece of which the byte is
pub record Within (pieces : List Piece) (front : List Owed) (first : Owed) : Type 0 where
  pub done : List Piece
  pub here : Piece
  pub others : List Piece
  pub parted : pieces ≡ done ++ here ∷ others
  pub line_is : first.line ≡ here.line
  pub taken : ℕ
  pub short : taken < length here.bytes
  pub bytes : bytes_of front ≡ bytes_in done ++ take taken here.bytes

behind_one : (piece : Piece) (pieces : List Piece) (front : List Owed) (first : Owed) (others : List Owed) (i : Behind piece.line piece.bytes (owed_for pieces) front first others) → Within pieces i.left first → Within (piece ∷ pieces) front first
behind_one piece pieces front first others i w = record {
  done = piece ∷ w.done;
  here = w.here;
  others = w.others;
  parted = ap (λ (t : List Piece). piece ∷ t) w.parted;
  line_is = w.line_is;
  taken = w.taken;
  short = w.short;
  bytes =
      ap bytes_of i.front_is
      ∙ bytes_more (owed_by piece.line piece.bytes) i.left
      ∙ ap₂ (λ (x y : List ℕ). x ++ y) (bytes_by piece.line piece.bytes) w.bytes
      ∙ sym (append_assoc piece.bytes (bytes_in w.done) (take w.taken w.here.bytes));
}

pub within_some : (pieces : List Piece) (front : List Owed) (first : Owed) (others : List Owed) → owed_for pieces ≡ front ++ first ∷ others → Within pieces front first
within_some [] [] first others e = absurd cc
within_some [] (f ∷ front) first others e = absurd cc
within_some (piece ∷ pieces) front first others e =
    ⊎_elim (λ (i : InText piece.line piece.bytes front first). record {
      done = [];
      here = piece;
      others = pieces;
      parted = refl;
      line_is = i.line_is;
      taken = i.taken;
      short = i.short;
      bytes = i.bytes;
    }) (λ (i : Behind piece.line piece.bytes (owed_for pieces) front first others). behind_one piece pieces front first others i (within_some pieces i.left first others i.rest_is)) (split_owed piece.line piece.bytes (owed_for pieces) front first others e)
