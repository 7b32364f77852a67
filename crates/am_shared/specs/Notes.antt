-- The notes of what the kernel queued
-- (autofs.rst, "Communicating with autofs: the event pipe").
use Rattle.std.specs.Prelude.{◌≡◌, ◌<◌, ◌⊎◌, ℕ, List, [], ◌∷◌, length}
use Rattle.std.specs.Prelude.{Option, Some, None}
use Rattle.am_wire.specs.{Packet, fields_of, canonical}
use Rattle.am_state.specs.{Obs}
use Rattle.am_state.specs.declared.obs.Obs.TheVariants.{Queued}
use Rattle.am_pipe.specs.{IsFull, Note, Putter}

-- a packet with its token and its attachment, in its canonical bytes
abbrev pub note : ℕ → ℕ → Packet → Note
note token attach packet =
    record { token = token; attach = attach; bytes = canonical (fields_of packet) }

-- the note of an observation, if it is that of a queued packet
abbrev pub note_at : Obs → Option Note
note_at (Queued token attach packet) = Some (note token attach packet)
note_at _ = None

-- the note, if there is one, and then these
abbrev pub before : Option Note → List Note → List Note
before None notes = notes
before (Some note) notes = note ∷ notes

-- the notes of all queued packets of a trace, in order
abbrev pub notes_of : List Obs → List Note
notes_of [] = []
notes_of (obs ∷ rest) = before (note_at obs) (notes_of rest)

-- no note waits to be put, or the pipe was full when the put end looked last
abbrev pub IsFlushed : Putter → List Note → Type 0
IsFlushed put unsent = (length unsent ≡ 0) ⊎ IsFull put

-- the same, where it has looked since
abbrev pub IsFlushedSince : ℕ → Putter → List Note → Type 0
IsFlushedSince looks put unsent = (length unsent ≡ 0) ⊎ ((looks < put.looks) × IsFull put)
