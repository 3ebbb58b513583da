-- The words of a descriptor, in the part of memory that begins with the caller's TX page.
use Rattle.std.specs.Prelude.{ℕ, ◌+◌, ◌-◌, ◌/◌, ◌%◌, ◌≤◌, ◌≡◌, Bool, List, length, get_or, replicate, eqb}
use Rattle.isa.specs.Tests.{◌and◌}
use Rattle.model.specs.declared.PageId.{PageId}
use Rattle.model.specs.declared.Kind.{Kind}
use Rattle.model.specs.declared.Machine.{Machine}
use Rattle.model.specs.Constants.{PLACES}
use Rattle.model.specs.Tests.{every, ascending, set_each}
use Rattle.model.specs.State.{vm, page}
use Rattle.model.specs.Row.{kind_number}
use Rattle.model.specs.Rights.{page_of}
use Rattle.model.specs.Reply.{is_other}
use Rattle.model.specs.Sending.{is_base}
use Rattle.offers.specs.declared.descriptor.Proposal.{Proposal}

-- enough words for the longest descriptor
abbrev pub Words : List ℕ → Type 0
Words tx = 10 ≤ length tx

unfoldable pub base_in : List ℕ → ℕ → ℕ
base_in tx i = get_or tx (2 + i) 0

-- the pages at the first count bases, and zeros behind them
unfoldable pub pages_in : ℕ → List ℕ → List PageId
pages_in count tx = set_each count (λ i. i) (λ i. page_of (base_in tx i)) (replicate PLACES (page 0))

-- the guest that the pages are for
unfoldable pub receiver_in : List ℕ → ℕ
receiver_in tx = get_or tx 1 0 / 65536

-- length and kind, receiver, bases
unfoldable pub well_formed : Kind → Machine → ℕ → List ℕ → Bool
well_formed kind m length tx =
    (eqb (get_or tx 0 0) length and eqb (get_or tx 1 0 % 65536) (kind_number kind))
    and is_other m (receiver_in tx)
    and every (length - 2) (λ i. is_base m.m (base_in tx i))
    and ascending (length - 2) (base_in tx)

-- what is read of a good descriptor
pub record Read (length : ℕ) (tx : List ℕ) (r : Proposal) : Type 0 where
  pub receiver : r.receiver ≡ vm (receiver_in tx)
  pub count : r.count ≡ length - 2
  pub pages : r.pages ≡ pages_in (length - 2) tx
