use Rattle.std.proofs.Common.{◌≡◌, ◌+◌, ◌<◌, ℕ, [], true, Ok, length, get_or, sym, ap, ◌∙◌, arith}
use Rattle.routine.specs.Limits.{set_of}
use Rattle.routine.specs.Block.{block, check_right, fields_right}
use Rattle.routine.specs.Routines.{routines}
use Rattle.routine.specs.Reading.{length_good, check_good, fields_good}
use Rattle.routine.proofs.Blocks.{block_is}
use Rattle.routine.proofs.Refused.{AllGood, length_means, bad_from_0, good_from_0, gives_2, gives_3, gives_good}
use Rattle.routine.proofs.read.Goals as goal
use Rattle.routine.proofs.read.Goals.{After-as_chunks, After-set_of-set}

long : (c : After-as_chunks) → length_good (length c.args.file.now) ≡ true
long c = sym c.length_good.ensures ∙ c.if-not-length_good.false

-- the slice has N blocks, and at i it has block i + 1
counted : (c : After-as_chunks) → length c.as_chunks.result.0.now ≡ (routines c.args.file.now).N
unfolding routines
counted c = c.as_chunks.ensures.front_len

there : (c : After-as_chunks) (i : ℕ) → i < (routines c.args.file.now).N → get_or c.as_chunks.result.0.now i [] ≡ block c.args.file.now (i + 1)
there c i h = ap (λ bs. get_or bs i []) c.as_chunks.ensures.front ∙ block_is c.args.file.now i h

pub returns-in-Some : goal.returns-in-Some
unfolding check_good
returns-in-Some c =
    let f = c.args.file.now in
    let a = (goal.at.returns-in-Some c).After-as_chunks in
    let n = counted a in
    let e = c.in-Some.ensures in
    sym (gives_2 f (c.in-Some.i + 1) (long a) (bad_from_0 _ _ _ (λ i h. ap check_right (there a i h)) c.in-Some.i (omega arith) e.1 e.2))

-- the checks are right, and the code's set is the file's
checks : (c : After-set_of-set) → AllGood (check_good c.args.file.now) (routines c.args.file.now).N
unfolding check_good
checks c =
    let a = (goal.at.After-set_of-set c).After-as_chunks in
    let n = counted a in
    good_from_0 _ _ _ (λ i h. ap check_right (there a i h)) (λ k h. c.in_default.ensures k (omega arith))

about : (c : After-set_of-set) → c.set_of-set.result ≡ set_of (routines c.args.file.now).N (routines c.args.file.now).B
unfolding routines
about c =
    let a = (goal.at.After-set_of-set c).After-as_chunks in
    let m = length_means _ (long a) in
    c.set_of-set.ensures ∙ ap (λ n. set_of n (get_or (get_or c.as_chunks.result.0.now 0 []) 3 0)) (counted a) ∙ ap (λ s. set_of (routines c.args.file.now).N (get_or s 3 0)) (there a 0 (omega arith))

fields : (c : After-set_of-set) (i : ℕ) → i < (routines c.args.file.now).N → fields_right c.set_of-set.result.processes c.set_of-set.result.bases (i + 1) (get_or c.as_chunks.result.0.now i []) ≡ fields_good c.args.file.now (i + 1)
unfolding fields_good
fields c i h =
    let a = (goal.at.After-set_of-set c).After-as_chunks in
    rw (about c) (ap (fields_right (routines c.args.file.now).N (routines c.args.file.now).B (i + 1)) (there a i h))

pub returns-in-Some-wrong_fields : goal.returns-in-Some-wrong_fields
returns-in-Some-wrong_fields c =
    let f = c.args.file.now in
    let a = (goal.at.returns-in-Some-wrong_fields c).After-as_chunks in
    let s = (goal.at.returns-in-Some-wrong_fields c).After-set_of-set in
    let n = counted a in
    let e = c.in-Some-wrong_fields.ensures in
    sym (gives_3 f (c.in-Some-wrong_fields.i + 1) (long a) (checks s) (bad_from_0 _ _ _ (fields s) c.in-Some-wrong_fields.i (omega arith) e.1 e.2))

pub returns : goal.returns
returns c =
    let f = c.args.file.now in
    let a = (goal.at.returns c).After-as_chunks in
    let s = (goal.at.returns c).After-set_of-set in
    let n = counted a in
    ap Ok (about s) ∙ sym (gives_good f (long a) (checks s) (good_from_0 _ _ _ (fields s) (λ k h. c.in_default-wrong_fields.ensures k (omega arith))))
