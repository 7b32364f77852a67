mod BufferLemmas
mod FillsLemmas
mod KeptLemmas
mod LooseLemmas
mod SessionLemmas
