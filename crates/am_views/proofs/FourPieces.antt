-- Texts that are put out one behind another.
use Rattle.std.proofs.Common.{ℕ, List, ◌++◌, Option}
use Rattle.am_script.specs.{Output, Puts}
use Rattle.am_script.proofs.Pieces.{puts_two, puts_three}

pub puts_four : (a b c d e : Output) (xs ys zs ws : List ℕ) (u v w x y : Option (List ℕ)) → Puts a b xs u v → Puts b c ys v w → Puts c d zs w x → Puts d e ws x y → Puts a e (xs ++ (ys ++ (zs ++ ws))) u y
puts_four a b c d e xs ys zs ws u v w x y f g h i = puts_two a b e xs (ys ++ (zs ++ ws)) u v y f (puts_three b c d e ys zs ws v w x y g h i)
