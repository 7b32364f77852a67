mod AskedLemmas
mod BegunLemmas
mod KindLemmas
