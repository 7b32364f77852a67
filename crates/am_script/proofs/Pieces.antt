-- Texts that are put out one behind another.
use Rattle.std.proofs.Common.{◌≡◌, ◌<◌, ◌+◌, ℕ, List, [], ◌∷◌, ◌++◌, length, take, get_or, codes, decimal, Option, refl, sym, ap, ◌∙◌, subst, append_assoc, append-nil}
use Rattle.std.proofs.lemmas.List.{map-append, take_more}
use Rattle.std.proofs.lemmas.Grind.{flat_map-append}
use Rattle.am_script.specs.{Output, mounts_text, Owed, owed_by, Stands, Puts}

joined : (all : List Owed) (line other : ℕ) (xs ys : List ℕ) → other ≡ line → (all ++ owed_by line xs) ++ owed_by other ys ≡ all ++ owed_by line (xs ++ ys)
joined all line other xs ys e =
    ap (λ (n : ℕ). (all ++ owed_by line xs) ++ owed_by n ys) e
    ∙ append_assoc all (owed_by line xs) (owed_by line ys)
    ∙ ap (λ (t : List Owed). all ++ t) (sym (map-append (λ (b : ℕ). record { byte = b; line = line }) xs ys))

pub puts_none : (a : Output) (u : Option (List ℕ)) → Puts a a [] u u
puts_none a u = record {
  same = refl;
  puts = λ all start h. subst (λ (t : List Owed). Stands a t start u) (sym (append-nil all)) h;
}

pub puts_two : (a b c : Output) (xs ys : List ℕ) (u v w : Option (List ℕ)) → Puts a b xs u v → Puts b c ys v w → Puts a c (xs ++ ys) u w
puts_two a b c xs ys u v w f g = record {
  same = g.same ∙ f.same;
  puts = λ all start h. subst (λ (t : List Owed). Stands c t start w) (joined all a.line b.line xs ys f.same) (g.puts (all ++ owed_by a.line xs) start (f.puts all start h));
}

pub puts_three : (a b c d : Output) (xs ys zs : List ℕ) (u v w x : Option (List ℕ)) → Puts a b xs u v → Puts b c ys v w → Puts c d zs w x → Puts a d (xs ++ (ys ++ zs)) u x
puts_three a b c d xs ys zs u v w x f g h = puts_two a b d xs (ys ++ zs) u v x f (puts_two b c d ys zs v w x g h)

-- one more of the mounts that have gone
pub mounts_more : (mounts : List ℕ) (i d : ℕ) → i < length mounts → mounts_text (take (i + 1) mounts) ≡ mounts_text (take i mounts) ++ (codes " " ++ decimal (get_or mounts i d))
mounts_more mounts i d inside =
    ap mounts_text (take_more mounts i d inside)
    ∙ flat_map-append (λ (m : ℕ). codes " " ++ decimal m) (take i mounts) (get_or mounts i d ∷ [])
    ∙ ap (λ (t : List ℕ). mounts_text (take i mounts) ++ t) (append-nil (codes " " ++ decimal (get_or mounts i d)))
