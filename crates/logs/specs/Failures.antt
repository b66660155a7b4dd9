-- Why a line cannot be read, in words. Assumes nothing.
--   reason   why a line cannot be read
use Rattle.std.specs.Prelude.{ℕ, List, codes}
use Rattle.logs.specs.declared.line.Unread.{Unread}
use Rattle.logs.specs.declared.line.Unread.TheVariants as unread

abbrev pub reason : Unread → List ℕ
reason unread.Heading = codes "a heading is a kind of key, a kind of counter, six whole numbers and no more"
reason unread.Weight = codes "a weight is a whole number behind the key"
reason unread.More = codes "there is more on the line than it takes"
