-- Texts that are put out one behind another.
use Rattle.std.proofs.Common.{ℕ, List, ◌++◌, Option}
use Rattle.am_script.specs.{Output, Puts}
use Rattle.am_script.proofs.Pieces.{puts_two}
use Rattle.am_views.proofs.FourPieces.{puts_four}

pub puts_five : (a b c d e f : Output) (xs ys zs vs ws : List ℕ) (u v w x y z : Option (List ℕ)) → Puts a b xs u v → Puts b c ys v w → Puts c d zs w x → Puts d e vs x y → Puts e f ws y z → Puts a f (xs ++ (ys ++ (zs ++ (vs ++ ws)))) u z
puts_five a b c d e f xs ys zs vs ws u v w x y z g h i j k =
    puts_two a b f xs (ys ++ (zs ++ (vs ++ ws))) u v z g (puts_four b c d e f ys zs vs ws v w x y z h i j k)

pub puts_six : (a b c d e f g : Output) (xs ys zs vs ws ts : List ℕ) (u v w x y z t : Option (List ℕ)) → Puts a b xs u v → Puts b c ys v w → Puts c d zs w x → Puts d e vs x y → Puts e f ws y z → Puts f g ts z t → Puts a g (xs ++ (ys ++ (zs ++ (vs ++ (ws ++ ts))))) u t
puts_six a b c d e f g xs ys zs vs ws ts u v w x y z t h i j k l m =
    puts_two a b g xs (ys ++ (zs ++ (vs ++ (ws ++ ts)))) u v t h (puts_five b c d e f g ys zs vs ws ts v w x y z t i j k l m)
