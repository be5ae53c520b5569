use Rattle.std.specs.Prelude.{◌/◌, ℕ, length}
use Rattle.std.proofs.Common.{◌∙◌, arith}
use Rattle.std.proofs.lemmas.List.{take-replicate}
use Rattle.trialing.specs.Trial.{most_words, words_loaded}
use Rattle.trialing.proofs.stream.put_trial.Goals as goal

pub put_line-requires-clause-words : goal.put_line-requires-clause-words
put_line-requires-clause-words c =
    let l = c.args.trial.words.now in
    c.load.ensures ∙ words_loaded l _ (take-replicate {X = ℕ} (length l / 2) most_words 0 (omega (arith, c.args.trial.few_words)))
