-- Every example holds, by computation.
use mathlib.Core.Path.{refl}
use Rattle.routine.specs.Test.{and, implies, within}
use Rattle.routine.specs.First.{first, every}
use Rattle.routine.specs.Sum.{sum_below}
use Rattle.routine.specs.Block.{block, check, check_shown, call_byte_good, byte_good, bad_byte, check_right, fields_right}
use Rattle.routine.specs.Routines.{routines, kind_now, base_now, mark, fine, hold}
use Rattle.routine.specs.Refusal.{shown, numbers, given, first_due, unless}
use Rattle.routine.specs.Reading.{length_good, check_good, fields_good, first_block, for_block, file_refusals, file_refusal, reading}
use Rattle.routine.specs.Judging.{is_take, only_lower, call_good, nothing_held, place_good, failing_place, routine_passes, failing_block, passes, judgement, judge_refusals, judge_refusal, judging}
use Rattle.rules.specs.Table.{base_at, lock, nomore, count, process_at, call, phase, wake, entry, words_at, put_base, put_marks, put_process, put_words, fresh}
use Rattle.rules.specs.Consistent.{mark_now}
use Rattle.rules.specs.Turn.{with_base, with_marks, to_phase, completed, succeeds, taken, take, release, lessen, begin, start, enlist, retry, delist, switch, await, next, waits, notified, next_at, settle, turned, moves}
use Rattle.rules.specs.Standing.{finished, all_finished, nobody_moves, standing_case, standing_number, standing_of}
use Rattle.promise.specs.Play.{play, one_if_moves, moved_in}
use Rattle.promise.specs.Files.{block_of, modifier_reader}
use Rattle.examples.specs.Examples.{empty, two_reads, downward, never_unlocked, wrong_release, crosswise, small, examples, AllHold}

pub examples_hold : AllHold examples
unfolding examples empty two_reads downward never_unlocked wrong_release crosswise small block_of modifier_reader and implies within first every sum_below block check check_shown call_byte_good byte_good bad_byte check_right fields_right routines kind_now base_now mark fine hold shown numbers given first_due unless length_good check_good fields_good first_block for_block file_refusals file_refusal reading is_take only_lower call_good nothing_held place_good failing_place routine_passes failing_block passes judgement judge_refusals judge_refusal judging base_at lock nomore count process_at call phase wake entry words_at put_base put_marks put_process put_words fresh mark_now with_base with_marks to_phase completed succeeds taken take release lessen begin start enlist retry delist switch await next waits notified next_at settle turned moves finished all_finished nobody_moves standing_case standing_number standing_of play one_if_moves moved_in
examples_hold = (refl, (refl, ((refl, refl), (refl, (refl, (refl, (refl, (refl, (refl, (refl, (refl, (refl, (refl, (refl, (refl, (refl, (refl, (refl, (refl, ((refl, refl), tt))))))))))))))))))))
