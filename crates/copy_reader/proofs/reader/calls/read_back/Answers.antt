use Rattle.std.proofs.Common.{◌≤◌, length, arith}
use Rattle.copy_format.specs.ReadingBack.{largest_copy}
use Rattle.copy_format.proofs.Words.{by_words}
use Rattle.copy_reader.proofs.Backs.{whole}
use Rattle.copy_reader.proofs.reader.calls.read_back.Goals as goal

pub returns-then-copy-gt-LARGEST_COPY-clause-words : goal.returns-then-copy-gt-LARGEST_COPY-clause-words
returns-then-copy-gt-LARGEST_COPY-clause-words g c = by_words

pub returns-clause-words : goal.returns-clause-words
returns-clause-words g c = by_words

pub returns-clause-back : goal.returns-clause-back
returns-clause-back g c =
    let small : length c.args.copy.now ≤ largest_copy = omega arith in
    whole (g.R.Registry.services c.args.registry.now) c.args.copy.now c.in_ok-stream.stream small c.in_ok-stream.ensures c.in_ok-test_words.ensures

pub returns-in_err-stream-clause-words : goal.returns-in_err-stream-clause-words
returns-in_err-stream-clause-words g c = by_words

pub returns-in_err-test_words-clause-words : goal.returns-in_err-test_words-clause-words
returns-in_err-test_words-clause-words g c = by_words
