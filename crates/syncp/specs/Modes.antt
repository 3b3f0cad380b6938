-- The tasks of the modes, by what the words say.
use Rattle.command_words.specs.declared.mode.Mode.{Mode}
use Rattle.command_words.specs.declared.mode.Mode.TheVariants as mode
use Rattle.command_words.specs.declared.words.Words.{Words}
use Rattle.syncp.specs.Tasks.{Task}
use Rattle.syncp.specs.PredictMode.{Predict}
use Rattle.syncp.specs.RecordMode.{Record}
use Rattle.syncp.specs.WitnessMode.{Witness}
use Rattle.syncp.specs.ReplayMode.{Replay}
use Rattle.syncp.specs.RunMode.{Run}
use Rattle.syncp.specs.BenchMode.{Bench}

-- the task of a mode, by what the words say
abbrev pub task_in : Mode → Words → Task
task_in mode.Predict words = Predict words.size
task_in mode.Record words = Record
task_in mode.Witness words = Witness words.size words.finding
task_in mode.Replay words = Replay words.size
task_in mode.Run words = Run words.size
task_in mode.Bench words = Bench words.size words.seed words.events

-- the task of words
abbrev pub task_of : Words → Task
task_of words = task_in words.mode words
