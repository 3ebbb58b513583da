-- A map of pages as a loop makes it, from the last page down to the first.
use Rattle.std.proofs.Common.{◌≡◌, ℕ, zero, suc, ◌+◌, ◌-◌, ◌^◌, ◌<◌, ◌≤◌, Bool, true, false, cond, not, eqb, List, refl, ◌∙◌, lt_of_lt_of_le, arith, pow_mono}
use native.Mathlib.Nat.{pow-succ', sub_self}
use Rattle.isa.specs.Tests.{◌and◌}
use Rattle.model.specs.declared.VmId.{VmId}
use Rattle.model.specs.declared.PageId.{PageId}
use Rattle.model.specs.declared.PageRecord.{PageRecord}
use Rattle.model.specs.declared.Access.TheVariants.{Allowed, NoAccess, OwnMailbox}
use Rattle.model.specs.Constants.{PAGES}
use Rattle.model.specs.VmSet.{has}
use Rattle.model.specs.State.{page, same_page, record_at}
use Rattle.model.specs.Rights.{right}
use Rattle.exec.specs.Maps.{with_page, map_of, is_allowed, pages_for}

-- A map of n pages has n bits.

with_page_lt : (map : ℕ) (b : Bool) (n : ℕ) → map < 2 ^ n → with_page map b < 2 ^ suc n
unfolding with_page
with_page_lt map true n h = rw (pow-succ' 2 n) (omega arith)
with_page_lt map false n h = rw (pow-succ' 2 n) (omega arith)

map_lt : (n : ℕ) (f : ℕ → Bool) → map_of n f < 2 ^ n
unfolding map_of
map_lt zero f = omega arith
map_lt (suc n) f = with_page_lt _ (f 0) n (map_lt n (λ p. f (suc p)))

-- the map of the pages from p on, with one page more in front
map_front : (n p : ℕ) (f : ℕ → Bool) → with_page (map_of n (λ q. f (suc p + q))) (f p) ≡ map_of (suc n) (λ q. f (p + q))
unfolding map_of
map_front n p f =
    let front : p ≡ p + 0 = omega arith in
    let behind : (q : ℕ) → suc p + q ≡ p + suc q = λ q. omega arith in
    λ i. with_page (map_of n (λ q. f (behind q i))) (f (front i))

-- whether a page is allowed, as the code asks it
page_test : (records : List PageRecord) (g : VmId) (forbidden : PageId) (p : ℕ)
    → has g (record_at records (page p)).access and not (eqb p forbidden.0) ≡ is_allowed (right records g forbidden (page p))
unfolding ◌and◌ right same_page is_allowed
page_test records g forbidden p = go (has g (record_at records (page p)).access) (eqb p forbidden.0)
  where
    go : (a b : Bool) → a and not b ≡ is_allowed (cond a (cond b OwnMailbox Allowed) NoAccess)
    go true true = refl
    go true false = refl
    go false b = refl

module _ (records : List PageRecord) (m : ℕ) (g : VmId) (forbidden : PageId) where
  -- the pages from p on that guest g may use: the loop's map
  unfoldable pub pagesFrom : ℕ → ℕ
  pagesFrom p = map_of (m - p) (λ q. is_allowed (right records g forbidden (page (p + q))))

  -- It begins, it fits, it has a page more in front, it has come to the end.

  pub pages_none : 0 ≡ pagesFrom m
  unfolding pagesFrom map_of
  pages_none = rw (sub_self m)

  pub pages_fit : (p : ℕ) {map : ℕ} → m ≤ PAGES → 0 < p → map ≡ pagesFrom p → map < 2 ^ 63
  unfolding pagesFrom
  pages_fit p fits some e = rw e (lt_of_lt_of_le (map_lt (m - p) _) (pow_mono {j = 63} (omega arith)))

  pub pages_more : (p : ℕ) {map next : ℕ} {reached : Bool} → 0 < p → p ≤ m → map ≡ pagesFrom p
      → reached ≡ has g (record_at records (page (p - 1))).access
      → next ≡ with_page map (reached and not (eqb (p - 1) forbidden.0))
      → next ≡ pagesFrom (p - 1)
  unfolding pagesFrom
  pages_more p some below e t made =
      let more : m - (p - 1) ≡ suc (m - p) = omega arith in
      let back : p ≡ suc (p - 1) = omega arith in
      made
      ∙ rw (t, page_test records g forbidden (p - 1), e, more)
      (rw (← back) at (map_front (m - p) (p - 1) (λ q. is_allowed (right records g forbidden (page q)))))

  pub pages_whole : (p : ℕ) {map : ℕ} → p ≤ 0 → map ≡ pagesFrom p → map ≡ pages_for records m g forbidden
  unfolding pagesFrom pages_for
  pages_whole p none e =
      let all : m - p ≡ m = omega arith in
      let each : (q : ℕ) → p + q ≡ q = λ q. omega arith in
      e ∙ (λ i. map_of (all i) (λ q. is_allowed (right records g forbidden (page (each q i)))))
