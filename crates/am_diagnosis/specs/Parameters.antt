-- What stands behind the first word of a line: own choice (docs/FORMATS.md, "Events" and "The head").
use Rattle.std.specs.Prelude.{ℕ, List, [], ◌∷◌, codes, bytes_eq, Option, None, Some, if◌then◌else◌}
use Rattle.am_diagnosis.specs.declared.expected.Expected.{Expected}
use Rattle.am_diagnosis.specs.declared.expected.Expected.TheVariants.{Walker, Namespace, FileSystem, Token, Job, Attachment, Seconds, Moment, Path, Pipe, Expiry, Change, Reduced, Packet, Outcome, Failure, Status, Name, Limit, Waits, Lasting, MapName}

-- the parameters of an event by its word: a line of this table for each word
unfoldable pub parameters : List ℕ → Option (List Expected)
parameters word =
    if bytes_eq word (codes "attach") then Some (Path ∷ [])
    else if bytes_eq word (codes "mount") then Some (Namespace ∷ Path ∷ [])
    else if bytes_eq word (codes "bind") then Some (Namespace ∷ Path ∷ Path ∷ [])
    else if bytes_eq word (codes "umount") then Some (Namespace ∷ Path ∷ [])
    else if bytes_eq word (codes "change") then Some (Namespace ∷ Path ∷ Change ∷ [])
    else if bytes_eq word (codes "kind") then Some (Namespace ∷ Path ∷ [])
    else if bytes_eq word (codes "nscopy") then Some (Namespace ∷ Reduced ∷ [])
    else if bytes_eq word (codes "nsdrop") then Some (Namespace ∷ [])
    else if bytes_eq word (codes "walk") then Some (Walker ∷ Namespace ∷ Path ∷ Moment ∷ Pipe ∷ [])
    else if bytes_eq word (codes "resume") then Some (Walker ∷ Moment ∷ Pipe ∷ [])
    else if bytes_eq word (codes "leave") then Some (Walker ∷ [])
    else if bytes_eq word (codes "expire") then Some (Walker ∷ FileSystem ∷ Moment ∷ Expiry ∷ Pipe ∷ [])
    else if bytes_eq word (codes "deliver") then Some (Token ∷ Packet ∷ [])
    else if bytes_eq word (codes "act") then Some (Job ∷ Outcome ∷ Failure ∷ [])
    else if bytes_eq word (codes "repeat") then Some (Attachment ∷ Token ∷ Status ∷ [])
    else if bytes_eq word (codes "catatonic") then Some (Attachment ∷ FileSystem ∷ [])
    else if bytes_eq word (codes "admincat") then Some (FileSystem ∷ [])
    else if bytes_eq word (codes "timeout") then Some (Attachment ∷ FileSystem ∷ Seconds ∷ [])
    else if bytes_eq word (codes "die") then Some []
    else if bytes_eq word (codes "reattach") then Some (FileSystem ∷ [])
    else if bytes_eq word (codes "record") then Some (FileSystem ∷ Name ∷ [])
    else None

-- the parameters of a part of the head by its first word
unfoldable pub part_parameters : List ℕ → Option (List Expected)
part_parameters word =
    if bytes_eq word (codes "limits") then Some (Limit ∷ Waits ∷ Limit ∷ [])
    else if bytes_eq word (codes "negative") then Some (Lasting ∷ [])
    else if bytes_eq word (codes "master") then Some []
    else if bytes_eq word (codes "map") then Some (MapName ∷ [])
    else if bytes_eq word (codes "events") then Some []
    else None
