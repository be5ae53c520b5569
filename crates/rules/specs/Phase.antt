-- The phases of a call, by their numbers: "0 start of a call, 1 to enlist, 2 second try, 3 to delist, 4 to set the switch, 5 waiting, 6 to notify, 7 stopped".
use Rattle.std.specs.Prelude.{ℕ}
use Rattle.rules.specs.declared.phase.Phase.{Phase}
use Rattle.rules.specs.declared.phase.Phase.TheVariants as Ph

unfoldable pub phase_number : Phase → ℕ
phase_number Ph.Start = 0
phase_number Ph.Enlist = 1
phase_number Ph.SecondTry = 2
phase_number Ph.Delist = 3
phase_number Ph.SetSwitch = 4
phase_number Ph.Waiting = 5
phase_number Ph.Notify = 6
phase_number Ph.Stopped = 7
