-- The bytes of a word are ASCII.
use Rattle.rm_lang_token.proofs.Ascii.{letter-below, word-ascii}
use Rattle.rm_lang_token.proofs.scan.word_lexeme.Goals as goal

pub word_of-requires : goal.word_of-requires
word_of-requires c = record {
  letter = letter-below c.args.letter c.requires;
  rest = rw c.word_len-len.ensures.len (word-ascii c.args.rest.now);
}
