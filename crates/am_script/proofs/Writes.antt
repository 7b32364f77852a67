-- What a writer took so far.
use Rattle.std.proofs.Common.{◌≡◌, ◌-◌, ℕ, List, [], ◌++◌, length, take, drop, Option, Some, None, refl, sym, ap, ◌∙◌, append_assoc, subst, length-append, arith}
use Rattle.std.specs.Io.KnownBytes.{Appends, Keeps}
use Rattle.std.proofs.lemmas.List.{take-append-drop, append-nil, take_at}

-- a front of the bytes was taken, and this is left of them
pub record Took (old new : Option (List ℕ)) (bytes rest : List ℕ) : Type 0 where
  pub front : List ℕ
  pub parts : bytes ≡ front ++ rest
  pub taken : Appends old new front

pub appends_more : (old mid new : Option (List ℕ)) (xs ys : List ℕ) → Appends old mid xs → Appends mid new ys → Appends old new (xs ++ ys)
appends_more None mid new xs ys h g = tt
appends_more (Some a) (Some b) (Some c) xs ys h g = g ∙ ap (λ (t : List ℕ). t ++ ys) h ∙ append_assoc a xs ys
appends_more (Some a) None new xs ys h g = absurd h
appends_more (Some a) (Some b) None xs ys h g = absurd g

pub keeps_appends : (old new : Option (List ℕ)) → Keeps old new → Appends old new []
keeps_appends None new h = tt
keeps_appends (Some a) (Some b) h = h ∙ sym (append-nil a)
keeps_appends (Some a) None h = absurd h

pub appends_none : (old : Option (List ℕ)) → Appends old old []
appends_none None = tt
appends_none (Some a) = sym (append-nil a)

pub took_more : (old mid new : Option (List ℕ)) (bytes rest : List ℕ) (n : ℕ) → Took old mid bytes rest → Appends mid new (take n rest) → Took old new bytes (drop n rest)
took_more old mid new bytes rest n t g = record {
  front = t.front ++ take n rest;
  parts = t.parts ∙ ap (λ (r : List ℕ). t.front ++ r) (sym (take-append-drop n rest)) ∙ sym (append_assoc t.front (take n rest) (drop n rest));
  taken = appends_more old mid new t.front (take n rest) t.taken g;
}

-- the bytes that were taken, by their number
pub took_count : (old new : Option (List ℕ)) (bytes rest : List ℕ) → Took old new bytes rest → Appends old new (take (length bytes - length rest) bytes)
took_count old new bytes rest t =
    let n : length bytes - length rest ≡ length t.front = omega (arith, ap (λ (b : List ℕ). length b) t.parts, length-append t.front rest) in
    subst (λ (f : List ℕ). Appends old new f) (sym (ap (λ (i : ℕ). take i bytes) n ∙ ap (take (length t.front)) t.parts ∙ take_at t.front rest (length t.front) refl)) t.taken

-- none of them was taken
pub took_none : (old mid new : Option (List ℕ)) (bytes rest : List ℕ) (n : ℕ) → n ≡ 0 → Took old mid bytes rest → Appends mid new (take n rest) → Took old new bytes rest
took_none old mid new bytes rest n e t g = subst (λ (k : ℕ). Took old new bytes (drop k rest)) e (took_more old mid new bytes rest n t g)

pub took_first : (old : Option (List ℕ)) (bytes : List ℕ) → Took old old bytes bytes
took_first old bytes = record { front = []; parts = refl; taken = appends_none old }
