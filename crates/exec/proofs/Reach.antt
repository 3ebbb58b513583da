-- The laws of maps of pages: their bits, what the access check by a map says, and that it is the check by the rights.
use Rattle.std.proofs.Common.{◌≡◌, ℕ, zero, suc, ◌+◌, ◌*◌, ◌/◌, ◌%◌, ◌^◌, ◌<◌, ◌≤◌, Bool, true, false, cond, ltb, List, length, Option, Some, None, refl, ◌∙◌, div-one, arith, ltb-true, le-ltb, lt-ltb, eq-eqb, ne_eqb}
use native.Mathlib.Nat.{pow-succ', div-div-eq-div-mul}
use Rattle.isa.specs.Tests.{◌and◌}
use Rattle.isa.proofs.Tests.{and_left}
use Rattle.isa.specs.declared.Instruction.{Instruction}
use Rattle.isa.specs.declared.Instruction.TheVariants.{Movi, Movt, Mov, Ldr, Str, Add, Sub, Addi, Cmp, Bne, Br, Hvc, Halt}
use Rattle.isa.specs.Decode.{decode_of}
use Rattle.model.specs.declared.VmId.{VmId}
use Rattle.model.specs.declared.PageId.{PageId}
use Rattle.model.specs.declared.PageRecord.{PageRecord}
use Rattle.model.specs.declared.Registers.{Registers}
use Rattle.model.specs.declared.Machine.{Machine}
use Rattle.model.specs.declared.Access.{Access}
use Rattle.model.specs.declared.Access.TheVariants.{Allowed, Outside, NoAccess, OwnMailbox}
use Rattle.model.specs.Constants.{PAGE}
use Rattle.model.specs.State.{page, own_mailbox}
use Rattle.model.specs.Rights.{Rights, right, rights, access}
use Rattle.model.specs.Memory.{fetched}
use Rattle.model.specs.Execute.{Move, faulted, if_allowed, perform, execute, guest_step}
use Rattle.exec.specs.Maps.{bit_at, may_reach, allowed_by, by_maps, with_page, map_of, is_allowed, pages_for}

-- The bits of a map.

-- a page in front: its own bit, and the bits behind it
first_bit : (map : ℕ) (b : Bool) → bit_at (with_page map b) 0 ≡ b
unfolding bit_at with_page
first_bit map true = rw div-one (eq-eqb ((map * 2 + 1) % 2) 1 (omega arith))
first_bit map false = rw div-one (ne_eqb ((map * 2 + 0) % 2) 1 (λ e. omega arith))

half : (map : ℕ) (b : Bool) → with_page map b / 2 ≡ map
unfolding with_page
half map true = omega arith
half map false = omega arith

next_bit : (map : ℕ) (b : Bool) (p : ℕ) → bit_at (with_page map b) (suc p) ≡ bit_at map p
unfolding bit_at
next_bit map b p = rw (pow-succ' 2 p, ← div-div-eq-div-mul (with_page map b) 2 (2 ^ p), half map b)

pub bit_of_map : (n : ℕ) (f : ℕ → Bool) (p : ℕ) → p < n → bit_at (map_of n f) p ≡ f p
unfolding map_of
bit_of_map zero f p h = absurd (omega arith)
bit_of_map (suc n) f zero h = first_bit (map_of n (λ q. f (suc q))) (f 0)
bit_of_map (suc n) f (suc p) h =
    next_bit (map_of n (λ q. f (suc q))) (f 0) p ∙ bit_of_map n (λ q. f (suc q)) p (omega arith)

-- The access check.

pub may_inside : (map words x : ℕ) → x < words → bit_at map (x / PAGE) ≡ may_reach map words x
unfolding may_reach ◌and◌
may_inside map words x h = rw (lt-ltb x words h)

pub may_outside : (map words x : ℕ) → words ≤ x → false ≡ may_reach map words x
unfolding may_reach ◌and◌
may_outside map words x h = rw (le-ltb x words h)

-- an access passes if it is allowed
passing : (a : Access) (move : Move) → if_allowed a move ≡ cond (is_allowed a) move faulted
unfolding if_allowed is_allowed
passing Allowed move = refl
passing Outside move = refl
passing NoAccess move = refl
passing OwnMailbox move = refl

-- so if its address is inside memory, and its page is allowed
checked : (allowed : PageId → Access) (memory : List ℕ) (x : ℕ) (move : Move)
    → if_allowed (access allowed memory x) move
    ≡ cond (ltb x (length memory) and is_allowed (allowed (page (x / PAGE)))) move faulted
unfolding access ◌and◌ if_allowed
checked allowed memory x move = go (ltb x (length memory))
  where
    go : (b : Bool) → if_allowed (cond b (allowed (page (x / PAGE))) Outside) move
        ≡ cond (b and is_allowed (allowed (page (x / PAGE)))) move faulted
    go true = passing (allowed (page (x / PAGE))) move
    go false = refl

allowed_bit : (map p : ℕ) → is_allowed (allowed_by map (page p)) ≡ bit_at map p
unfolding allowed_by is_allowed
allowed_bit map p = go (bit_at map p)
  where
    go : (b : Bool) → is_allowed (cond b Allowed NoAccess) ≡ b
    go true = refl
    go false = refl

reached : (map : ℕ) (memory : List ℕ) (x : ℕ) (move : Move)
    → if_allowed (access (allowed_by map) memory x) move ≡ cond (may_reach map (length memory) x) move faulted
unfolding may_reach
reached map memory x move = rw (checked (allowed_by map) memory x move, allowed_bit map (x / PAGE))

pub reach_inside : (map words x : ℕ) → may_reach map words x ≡ true → x < words
unfolding may_reach
reach_inside map words x e = ltb-true x words (and_left _ _ e)

pub reach_true : (map : ℕ) (memory : List ℕ) (x : ℕ) (move : Move) → may_reach map (length memory) x ≡ true
    → if_allowed (access (allowed_by map) memory x) move ≡ move
reach_true map memory x move e = reached map memory x move ∙ rw e

pub reach_false : (map : ℕ) (memory : List ℕ) (x : ℕ) (move : Move) → may_reach map (length memory) x ≡ false
    → if_allowed (access (allowed_by map) memory x) move ≡ faulted
reach_false map memory x move e = reached map memory x move ∙ rw e

-- Two ways to say what is allowed that agree on every page of the memory.

module _ (memory : List ℕ) where
  -- every access has the same outcome by the one and by the other
  abbrev Alike : (PageId → Access) → (PageId → Access) → Type 0
  Alike a b = (x : ℕ) (move : Move) → if_allowed (access a memory x) move ≡ if_allowed (access b memory x) move

  alike : (m : ℕ) (a b : PageId → Access) → length memory ≡ PAGE * m
      → ((p : ℕ) → p < m → is_allowed (a (page p)) ≡ is_allowed (b (page p))) → Alike a b
  unfolding ◌and◌
  alike m a b l same x move =
      rw (checked a memory x move, checked b memory x move, go (ltb x (length memory)) refl)
    where
      go : (t : Bool) → ltb x (length memory) ≡ t
          → t and is_allowed (a (page (x / PAGE))) ≡ t and is_allowed (b (page (x / PAGE)))
      go true e = same (x / PAGE) (omega (arith, ltb-true x (length memory) e))
      go false e = refl

  module _ (a b : Rights) (loads : Alike a.loads b.loads) (stores : Alike a.stores b.stores) (file : Registers) where
    same_perform : (i : Instruction) → perform i a file memory ≡ perform i b file memory
    unfolding perform
    same_perform (Movi d k) = refl
    same_perform (Movt d k) = refl
    same_perform (Mov d s) = refl
    same_perform (Ldr d s) = loads _ _
    same_perform (Str d s) = stores _ _
    same_perform (Add d s) = refl
    same_perform (Sub d s) = refl
    same_perform (Addi d k) = refl
    same_perform (Cmp d s) = refl
    same_perform (Bne s) = refl
    same_perform (Br s) = refl
    same_perform Hvc = refl
    same_perform Halt = refl

    same_execute : (d : Option Instruction) → execute d a file memory ≡ execute d b file memory
    unfolding execute
    same_execute (Some i) = same_perform i
    same_execute None = refl

    same_step : guest_step a file memory ≡ guest_step b file memory
    unfolding guest_step
    same_step = rw (same_execute (decode_of (fetched file memory))) (loads _ _)

own_page : (records : List PageRecord) (m : ℕ) (g : VmId) (forbidden : PageId) (p : ℕ) → p < m
    → is_allowed (allowed_by (pages_for records m g forbidden) (page p)) ≡ is_allowed (right records g forbidden (page p))
unfolding pages_for
own_page records m g forbidden p h = allowed_bit _ p ∙ bit_of_map m _ p h

pub own_rights : (m : Machine) (file : Registers) (memory : List ℕ) → length memory ≡ PAGE * m.m
    → guest_step
    (by_maps
    (pages_for m.records m.m m.current (own_mailbox m).tx)
    (pages_for m.records m.m m.current (own_mailbox m).rx))
    file
    memory
    ≡ guest_step (rights m) file memory
unfolding rights
own_rights m file memory l =
    let side : (forbidden : PageId)
    → Alike memory (allowed_by (pages_for m.records m.m m.current forbidden)) (right m.records m.current forbidden) =
    λ forbidden. alike memory m.m _ _ l (own_page m.records m.m m.current forbidden) in
    same_step memory _ _ (side (own_mailbox m).tx) (side (own_mailbox m).rx) file
