-- What lines of a scene are expected to have, in words: own choice (docs/FORMATS.md, "Places of
-- faults").
use Rattle.std.specs.Prelude.{ℕ, List, codes}
use Rattle.am_diagnosis.specs.Expectations.{expected_words}
use Rattle.am_explain.specs.declared.scene_expected.SceneExpected.{SceneExpected}
use Rattle.am_explain.specs.declared.scene_expected.SceneExpected.TheVariants as wanted

-- what is expected, in words
abbrev pub scene_words : SceneExpected → List ℕ
scene_words (wanted.InScript expected) = expected_words expected
scene_words wanted.SceneLine = codes "thread, serve, sometimes, never or always"
scene_words wanted.LaterLine = codes "sometimes, never or always, as above"
scene_words wanted.ThreadName = codes "the name of the thread"
scene_words wanted.FreeName = codes "a name that no thread above has"
scene_words wanted.Daemon = codes "daemon"
scene_words wanted.Failure = codes "fail or the end of the line"
scene_words wanted.FailureNumber = codes "the number of an error, 1 to 9"
scene_words wanted.ServedLine =
    codes "thread, sometimes, never or always: how the daemon serves stands above"
scene_words wanted.AskedThread = codes "the name of a thread"
scene_words wanted.WorldLine = codes "a line of a world: a number, # or * first"
scene_words wanted.AskedEvent = codes "the number of an event, or waiting"
scene_words wanted.KnownThread = codes "the name of a thread above, or a line of a world"
scene_words wanted.KnownEvent = codes "the number of an event of the thread, or waiting alone"
scene_words wanted.Answer =
    codes "an answer: wait, at, err or fail with its words or *, or * alone"
