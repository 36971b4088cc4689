-- What is said of a fault of a run.
use Rattle.std.specs.Prelude.{ℕ, List, codes}
use Rattle.j39_listen.specs.declared.running.RunFault.{RunFault}
use Rattle.j39_listen.specs.declared.running.RunFault.TheVariants.{Memory, Read, Write, TooLong}

abbrev pub fault_words : RunFault → List ℕ
fault_words Memory = codes "out of memory"
fault_words Read = codes "read failed"
fault_words Write = codes "write failed"
fault_words TooLong = codes "input too long"
