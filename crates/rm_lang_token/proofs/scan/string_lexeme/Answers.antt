-- The bytes in front of the closing quote are ASCII.
use Rattle.rm_lang_token.proofs.Ascii.{string-ascii}
use Rattle.rm_lang_token.proofs.scan.string_lexeme.Goals as goal

pub from_ascii-requires : goal.from_ascii-requires
from_ascii-requires c = rw c.string_len-len.ensures (string-ascii c.args.rest.now)
