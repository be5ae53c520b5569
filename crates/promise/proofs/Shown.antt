-- The plays that are shown one by one, by computation: demand 3 is not empty, and the slips do harm.
use mathlib.Core.Path.{◌≡◌, refl}
use Rattle.std.specs.Prelude.{Ok}
use Rattle.routine.specs.Test.{and, implies, within}
use Rattle.routine.specs.First.{first, every}
use Rattle.routine.specs.Sum.{sum_below}
use Rattle.routine.specs.Block.{block, check, check_shown, call_byte_good, byte_good, bad_byte, check_right, fields_right}
use Rattle.routine.specs.Routines.{routines, kind_now, base_now, mark, fine, hold}
use Rattle.routine.specs.Refusal.{given, first_due, unless}
use Rattle.routine.specs.Reading.{length_good, check_good, fields_good, first_block, for_block, file_refusals, file_refusal}
use Rattle.routine.specs.Judging.{is_take, only_lower, call_good, nothing_held, place_good, failing_place, routine_passes, failing_block, passes, judgement, judge_refusals, judge_refusal, judging}
use Rattle.rules.specs.Table.{base_at, lock, nomore, count, process_at, call, phase, wake, entry, words_at, put_base, put_marks, put_process, put_words, fresh}
use Rattle.rules.specs.Consistent.{mark_now, effective, held}
use Rattle.rules.specs.Turn.{with_base, with_marks, to_phase, completed, succeeds, taken, take, release, lessen, begin, start, enlist, retry, delist, switch, await, next, waits, notified, next_at, settle, turned, moves}
use Rattle.rules.specs.Standing.{finished, all_finished, nobody_moves, standing_case, standing_number, standing_of}
use Rattle.promise.specs.Play.{play, one_if_moves, moved_in, by_processes}
use Rattle.promise.specs.Files.{block_of, modifier_reader, modifiers_reader, modifiers_then_reader, ring}
use Rattle.promise.specs.Witness.{to_sleep, to_wake, to_end, Contended}
use Rattle.promise.specs.Slips.{interlock, play_of, standing_in, stuck, alone, crowded, AllHarmful, no_more, also, leaving, slipping, leaves_switch, switch_left, enlist_and_wait, waits_at_once, one_try, tries_first, tries_too_soon, forgets_count, count_forgotten, first_notified, after_first, wakes_first, only_first_woken, notifies_if_on, not_notified, last_taken, place_by_last, passes_by_last, judge_by_last, ring_passed, slips}

-- ---- the files that pass

modifier_reader_passes : judging modifier_reader ≡ Ok tt
unfolding block_of modifier_reader and implies within first every sum_below block check check_shown call_byte_good byte_good bad_byte check_right fields_right routines mark fine hold given first_due unless length_good check_good fields_good first_block for_block file_refusals file_refusal is_take only_lower call_good nothing_held place_good failing_place routine_passes failing_block passes judgement judge_refusals judge_refusal judging
modifier_reader_passes = refl

modifiers_reader_passes : judging modifiers_reader ≡ Ok tt
unfolding block_of modifiers_reader and implies within first every sum_below block check check_shown call_byte_good byte_good bad_byte check_right fields_right routines mark fine hold given first_due unless length_good check_good fields_good first_block for_block file_refusals file_refusal is_take only_lower call_good nothing_held place_good failing_place routine_passes failing_block passes judgement judge_refusals judge_refusal judging
modifiers_reader_passes = refl

modifiers_then_reader_passes : judging modifiers_then_reader ≡ Ok tt
unfolding block_of modifiers_then_reader and implies within first every sum_below block check check_shown call_byte_good byte_good bad_byte check_right fields_right routines mark fine hold given first_due unless length_good check_good fields_good first_block for_block file_refusals file_refusal is_take only_lower call_good nothing_held place_good failing_place routine_passes failing_block passes judgement judge_refusals judge_refusal judging
modifiers_then_reader_passes = refl

ring_passes_last : judge_by_last ring ≡ Ok tt
unfolding block_of ring last_taken place_by_last passes_by_last judge_by_last and implies within first every sum_below block check check_shown call_byte_good byte_good bad_byte check_right fields_right routines mark fine hold given first_due unless length_good check_good fields_good first_block for_block file_refusals file_refusal is_take only_lower call_good nothing_held place_good failing_place routine_passes failing_block passes judgement judge_refusals judge_refusal judging
ring_passes_last = refl

-- ---- the play in which processes wait, are woken, and all finish

pub contended : Contended modifiers_reader
unfolding block_of modifiers_reader to_sleep to_wake to_end nobody_moves standing_case standing_number standing_of play one_if_moves moved_in by_processes and within first every block routines kind_now base_now mark fine hold is_take base_at lock nomore count process_at call phase wake entry words_at put_base put_marks put_process put_words fresh mark_now with_base with_marks to_phase completed succeeds taken take release lessen begin start enlist retry delist switch await next waits notified next_at settle turned moves finished all_finished
contended = record {
  passes = modifiers_reader_passes;
  turns_by = refl;
  modifier_waits = record { waiting = refl; enlisted = refl; idle = refl };
  reader_waits = record { waiting = refl; enlisted = refl; idle = refl };
  switch_on = refl;
  modifier_woken = refl;
  reader_woken = refl;
  moved = refl;
  finished = refl;
}

-- ---- the slips

pub slips_harm : AllHarmful slips
unfolding block_of modifier_reader modifiers_reader modifiers_then_reader ring implies effective held by_processes interlock play_of standing_number standing_in stuck alone crowded leaving slipping leaves_switch switch_left enlist_and_wait waits_at_once one_try tries_first tries_too_soon forgets_count count_forgotten first_notified after_first wakes_first only_first_woken notifies_if_on not_notified ring_passed slips and within first every block routines kind_now base_now mark fine hold is_take base_at lock nomore count process_at call phase wake entry words_at put_base put_marks put_process put_words fresh mark_now with_base with_marks to_phase completed succeeds taken take release lessen begin start enlist retry delist switch await next waits notified next_at settle turned moves finished all_finished
slips_harm =
    also (record { passed = modifiers_then_reader_passes; turns_by = refl; harmed = refl })
    (also (record { passed = modifier_reader_passes; turns_by = refl; harmed = refl })
    (also (record { passed = modifier_reader_passes; turns_by = refl; harmed = refl })
    (also (record { passed = modifier_reader_passes; turns_by = refl; harmed = refl })
    (also (record { passed = modifiers_reader_passes; turns_by = refl; harmed = refl })
    (also (record { passed = modifier_reader_passes; turns_by = refl; harmed = refl })
    (also (record { passed = ring_passes_last; turns_by = refl; harmed = refl })
    no_more))))))
