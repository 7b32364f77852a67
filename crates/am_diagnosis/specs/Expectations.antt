-- The numbers of what is expected, and their words: own choice (docs/FORMATS.md, "Faults").
use Rattle.std.specs.Prelude.{ℕ, List, codes}
use Rattle.am_diagnosis.specs.declared.expected.Expected.{Expected}
use Rattle.am_diagnosis.specs.declared.expected.Expected.TheVariants.{Event, Walker, Namespace, FileSystem, Token, Job, Attachment, Seconds, Moment, Path, Pipe, Expiry, Change, Reduced, Packet, Outcome, Failure, Status, Name, End, Part, Limit, Waits, Lasting, MapName, Order, SectionEnd, KnownMap, Point, FreePoint, Map, MasterOption, Timeout, Key, Entry, Location}

-- its number
abbrev pub expected_number : Expected → ℕ
expected_number Event = 1
expected_number Walker = 2
expected_number Namespace = 3
expected_number FileSystem = 4
expected_number Token = 5
expected_number Job = 6
expected_number Attachment = 7
expected_number Seconds = 8
expected_number Moment = 9
expected_number Path = 10
expected_number Pipe = 11
expected_number Expiry = 12
expected_number Change = 13
expected_number Reduced = 14
expected_number Packet = 15
expected_number Outcome = 16
expected_number Failure = 17
expected_number Status = 18
expected_number Name = 19
expected_number End = 20
expected_number Part = 21
expected_number Limit = 22
expected_number Waits = 23
expected_number Lasting = 24
expected_number MapName = 25
expected_number Order = 26
expected_number SectionEnd = 27
expected_number KnownMap = 28
expected_number Point = 29
expected_number FreePoint = 30
expected_number Map = 31
expected_number MasterOption = 32
expected_number Timeout = 33
expected_number Key = 34
expected_number Entry = 35
expected_number Location = 36

-- what it is, in words
abbrev pub expected_words : Expected → List ℕ
expected_words Event = codes "the word of an event"
expected_words Walker = codes "a walker, a number below 2^32"
expected_words Namespace = codes "a namespace, a number below 2^32"
expected_words FileSystem = codes "a file system, a number below 2^32"
expected_words Token = codes "a token, a number below 2^32"
expected_words Job = codes "a job, a number below 2^32"
expected_words Attachment = codes "an attachment, a number below 2^32"
expected_words Seconds = codes "seconds, a number below 2^32"
expected_words Moment = codes "a moment in seconds, a number below 2^64"
expected_words Path = codes "a path, which begins with /"
expected_words Pipe = codes "room, full or gone"
expected_words Expiry = codes "idle or immediate"
expected_words Change = codes "shared, slave, private or unbindable"
expected_words Reduced = codes "reduced or the end of the line"
expected_words Packet = codes "608 hex digits or the end of the line"
expected_words Outcome = codes "ok or fail"
expected_words Failure = codes "the number of an error, 1 to 9, or the end of the line"
expected_words Status = codes "ready or fail"
expected_words Name = codes "a name, or - for a direct trigger"
expected_words End = codes "the end of the line"
expected_words Part = codes "limits, negative, master, map or events"
expected_words Limit = codes "a limit, a number from 1 to 4294967295"
expected_words Waits = codes "the most waits, a number from 1 to 65536"
expected_words Lasting = codes "how many seconds failures last, a number below 2^64"
expected_words MapName = codes "the name of a map"
expected_words Order = codes "a part of the head that may stand below those above it"
expected_words SectionEnd = codes "a line that is just end, below this one"
expected_words KnownMap = codes "the name of a map that has a section"
expected_words Point = codes "/- or a path below /"
expected_words FreePoint = codes "a mount point that no line above has"
expected_words Map = codes "a map, its name or file:name"
expected_words MasterOption =
    codes "--timeout with seconds below 2^32, another option, or the end of the line"
expected_words Timeout = codes "the seconds of a timeout, a number below 2^32"
expected_words Key = codes "a key of this kind of map"
expected_words Entry = codes "options behind a dash, or a location host:/path"
expected_words Location = codes "a location host:/path"
