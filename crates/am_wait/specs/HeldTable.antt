-- What a contract sees of the open tokens: own choice.
use Rattle.std.specs.Prelude.{List}
use Rattle.am_wait.specs.declared.held.HeldToken.{HeldToken}

-- the open tokens, in rising order, each with the keys of its waiters
pub record HeldTable : Type 0 where
  pub items : List HeldToken
