mod LineLemmas
mod NoteLemmas
mod PlayLemmas
mod ShownLemmas
