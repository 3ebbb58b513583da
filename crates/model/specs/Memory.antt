-- Where the definitions read memory: what the current guest fetches and loads, and what stands in its TX page.
use Rattle.std.specs.Prelude.{ℕ, ◌*◌, List, get_or, drop}
use Rattle.model.specs.declared.PageId.{PageId}
use Rattle.model.specs.declared.Registers.{Registers}
use Rattle.model.specs.Constants.{PAGE}
use Rattle.model.specs.State.{State, own_mailbox}

-- the address of a page's first word
unfoldable pub base_of : PageId → ℕ
base_of p = PAGE * p.0

unfoldable pub fetched : Registers → List ℕ → ℕ
fetched file memory = get_or memory file.pc 0

unfoldable pub loaded : List ℕ → ℕ → ℕ
loaded memory x = get_or memory x 0

-- the words from the current guest's TX page on, and one of them
unfoldable pub tx_words : State → List ℕ
tx_words s = drop (base_of (own_mailbox s.machine).tx) s.memory

unfoldable pub tx_word : State → ℕ → ℕ
tx_word s i = get_or (tx_words s) i 0
