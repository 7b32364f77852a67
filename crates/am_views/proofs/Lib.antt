pub mod CountedLemmas
pub mod FourPieces
pub mod Shows
pub mod WholeInputs
