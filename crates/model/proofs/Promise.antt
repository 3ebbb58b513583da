-- The reclaim promise: the frame law over a list of acts, with the sending in front and the reclaim behind.
use Rattle.std.specs.Prelude.{Some}
use Prim.Native.Nat.{ℕ, suc, ◌<◌}
use mathlib.Core.Path.{◌≡◌, refl, sym, ap, ◌∙◌}
use mathlib.Core.Bool.{Bool, true, false, false≢true}
use mathlib.Core.List.{List, [], ◌∷◌}
use mathlib.Core.Logic.{◌⊎◌, inl, inr}
use native.Mathlib.Omega.{arith}
use lib.ListN.{length, set}
use Rattle.model.specs.declared.VmId.{VmId}
use Rattle.model.specs.declared.PageId.{PageId}
use Rattle.model.specs.declared.Handle.{Handle}
use Rattle.model.specs.declared.Kind.{Kind}
use Rattle.model.specs.declared.Kind.TheVariants.{Donate, Lend, Share}
use Rattle.model.specs.declared.PageRecord.{PageRecord}
use Rattle.model.specs.declared.Deal.{Deal}
use Rattle.model.specs.declared.Transaction.{Transaction}
use Rattle.model.specs.Constants.{HANDLES}
use Rattle.model.specs.State.{State, record_at, transaction_at, page_at, count_in, count_of}
use Rattle.model.specs.Row.{shares, donates, owned_row}
use Rattle.model.specs.Table.{deal}
use Rattle.model.specs.Due.{holds}
use Rattle.model.specs.Deeds.{settled, marked, reclaimed}
use Rattle.model.specs.Rights.{page_of}
use Rattle.model.specs.Memory.{loaded}
use Rattle.model.specs.Kept.{Fit}
use Rattle.model.specs.Act.{is_in, Act, after, after_all, Event, Stored, Sent, Reclaimed, event_of, events, event_at, last_stored}
use Rattle.model.specs.Frame.{dealt}
use Rattle.model.specs.Promise.{Story, Between, ReclaimPromise}
use Rattle.isa.proofs.Tests.{not_both}
use Rattle.model.proofs.State.{transaction_same}
use Rattle.model.proofs.Due.{page_below}
use Rattle.model.proofs.Deed.{PagesSent, Deed, did_nothing, stored_it, sent_message, sent_pages, retrieved_it, relinquished_it, reclaimed_it, act_deed}
use Rattle.model.proofs.Settle.{recorded_same}
use Rattle.model.proofs.Kept.{accepted_fit, act_keeps_fit}
use Rattle.model.proofs.Marks.{Marks, end, next, between}
use Rattle.model.proofs.Frame.{frame_law}
use Rattle.model.proofs.Words.{stored_by, word_after}

-- a store on a page of the deal is by a party that may, while the mark is so
pub StoreFits : Deal → List PageId → Event → Bool → Type 0
StoreFits d pages e mark =
    (g : VmId) (x v : ℕ) → e ≡ Stored g x v → holds (dealt d pages) (page_of x) ≡ true
    → ((shares d.kind ≡ true) × (g ≡ d.sender)) ⊎ ((g ≡ d.receiver) × (mark ≡ true))

-- what a list of acts leaves of a deal that is not reclaimed
record Through (acts : List Act) (s : State) (h : Handle) (d : Deal) (pages : List PageId) : Type 0 where
  mark : Bool
  fit : Fit (after_all acts s)
  slot : transaction_at (after_all acts s).machine.transactions h ≡ dealt (marked d mark) pages
  marks : Marks d.receiver h (StoreFits d pages) (events acts s) d.retrieved mark
  words : (x : ℕ) → holds (dealt d pages) (page_of x) ≡ true
      → loaded (after_all acts s).memory x ≡ last_stored x (events acts s) (loaded s.memory x)

module _ (h : Handle) (is_handle : h.0 < HANDLES) (pages : List PageId) where
  through : (acts : List Act) (s : State) → Fit s → (d : Deal) → donates d.kind ≡ false
      → transaction_at s.machine.transactions h ≡ dealt d pages
      → ((q : ℕ) → event_at (events acts s) q ≡ Reclaimed d.sender h → ⊥) → Through acts s h d pages
  unfolding after_all events last_stored marked StoreFits holds count_of count_in page_at
  through [] s fit d keeps slot not_yet =
      record { mark = d.retrieved; fit = fit; slot = slot; marks = end; words = λ x held. refl }
  through (a ∷ rest) s fit d keeps slot not_yet =
      let now = frame_law a s fit.shaped h d pages slot (not_yet 0) (λ gives. absurd (not_both gives keeps)) in
      let later = through rest (after a s) (act_keeps_fit a s fit) (marked d now.mark) keeps now.slot (λ q. not_yet (suc q)) in
      let at : (x : ℕ) → holds (dealt d pages) (page_of x) ≡ true → holds (transaction_at s.machine.transactions h) (page_of x) ≡ true =
      λ x held. rw slot held in
      let live : (transaction_at s.machine.transactions h).deal ≡ Some d = rw slot in
      record {
        mark = later.mark;
        fit = later.fit;
        slot = later.slot;
        marks = next (λ g x v e held. stored_by a s fit h is_handle d live x (at x held) g v e) now.marking later.marks;
        words = λ x held.
            later.words x held
            ∙ ap (λ (w : ℕ). last_stored x (events rest (after a s)) w) (word_after a s fit h is_handle d live x (at x held));
      }

-- The sending.

-- the deal that an act with this event has made
record Start (a : Act) (s : State) (k : Kind) (i j : VmId) (h : Handle) (ps : List PageId) : Type 0 where
  new : Transaction
  facts : PagesSent s.machine.transactions s.machine.records k i j h ps new
  transactions : (after a s).machine.transactions ≡ set s.machine.transactions h.0 new
  memory : (after a s).memory ≡ s.memory

start : (a : Act) (s : State) (k : Kind) (i j : VmId) (h : Handle) (ps : List PageId) → event_of a s ≡ Sent k i j h ps
    → Deed a s → Start a s k i j h ps
start a s k i j h ps e (sent_pages kind to given pages new f c transactions memory) =
    let same_kind : kind ≡ k = cc in
    let same-sender : s.machine.current ≡ i = cc in
    let same_receiver : to ≡ j = cc in
    let same_handle : given ≡ h = cc in
    let same_pages : pages ≡ ps = cc in
    rw (← same_kind, ← same-sender, ← same_receiver, ← same_handle, ← same_pages)
    (record { new = new; facts = c; transactions = transactions; memory = memory })
start a s k i j h ps e (did_nothing f leaves memory) = absurd (false≢true cc)
start a s k i j h ps e (stored_it x v f may leaves memory) = absurd (false≢true cc)
start a s k i j h ps e (sent_message f below message leaves) = absurd (false≢true cc)
start a s k i j h ps e (retrieved_it l d f c leaves memory) = absurd (false≢true cc)
start a s k i j h ps e (relinquished_it l d f c leaves memory) = absurd (false≢true cc)
start a s k i j h ps e (reclaimed_it l d f c leaves memory) = absurd (false≢true cc)

-- The reclaim.

-- the deal that an act with this event has ended
record Finish (b : Act) (u : State) (i : VmId) (h : Handle) : Type 0 where
  deal : Deal
  is_handle : h.0 < HANDLES
  live : (transaction_at u.machine.transactions h).deal ≡ Some deal
  unmarked : deal.retrieved ≡ false
  records : (after b u).machine.records ≡ (reclaimed u.machine h deal).records
  memory : (after b u).memory ≡ u.memory

finish : (b : Act) (u : State) (i : VmId) (h : Handle) → event_of b u ≡ Reclaimed i h → Deed b u → Finish b u i h
finish b u i h e (reclaimed_it l d f c leaves memory) =
    let same_handle : l ≡ h = cc in
    rw (← same_handle)
    (record { deal = d; is_handle = c.is_handle; live = c.is_live; unmarked = c.is_marked; records = leaves.records; memory = memory })
finish b u i h e (did_nothing f leaves memory) = absurd (false≢true cc)
finish b u i h e (stored_it x v f may leaves memory) = absurd (false≢true cc)
finish b u i h e (sent_message f below message leaves) = absurd (false≢true cc)
finish b u i h e (sent_pages k j l ps new f c transactions memory) = absurd (false≢true cc)
finish b u i h e (retrieved_it l d f c leaves memory) = absurd (false≢true cc)
finish b u i h e (relinquished_it l d f c leaves memory) = absurd (false≢true cc)

-- The promise.

-- what is shared or lent is not donated
not_donated : {k : Kind} → (k ≡ Share) ⊎ (k ≡ Lend) → donates k ≡ false
unfolding donates
not_donated (inl e) = ap donates e
not_donated (inr e) = ap donates e

shares_share : (k : Kind) → shares k ≡ true → k ≡ Share
unfolding shares
shares_share Donate e = absurd (false≢true e)
shares_share Lend e = absurd (false≢true e)
shares_share Share e = refl

module _ (s : State) (a : Act) (acts : List Act) (b : Act) (k : Kind) (i j : VmId) (h : Handle) (ps : List PageId)
    (story : Story s a acts b k i j h ps) where
  fit : Fit s
  fit = accepted_fit s story.accepted

  first : Start a s k i j h ps
  first = start a s k i j h ps story.sent (act_deed a s fit.shaped)

  abbrev pages : List PageId
  pages = first.new.pages

  abbrev given : Deal
  given = deal i j k false (length ps)

  has_page : (p : PageId) → is_in p ps ≡ true → holds (dealt given pages) p ≡ true
  unfolding holds count_of
  has_page p e = rw (← first.facts.is_deal) (first.facts.just_these p ∙ e)

  middle : Through acts (after a s) h given pages
  middle =
      through h first.facts.is_handle pages acts (after a s) (act_keeps_fit a s fit) given (not_donated story.shared_or_lent)
      (ap (λ (t : List Transaction). transaction_at t h) first.transactions
      ∙ transaction_same s.machine.transactions h first.new (omega (arith, fit.shaped.sixteen_transactions, first.facts.is_handle))
      ∙ (λ z. record { deal = first.facts.is_deal z; pages = pages }))
      story.not_yet

  abbrev last : State
  last = after_all acts (after a s)

  finally : Finish b last i h
  finally = finish b last i h story.reclaimed (act_deed b last middle.fit.shaped)

  -- the deal that ends is the one that was made, with a clear mark
  same_deal : finally.deal ≡ marked given middle.mark
  same_deal =
      let lives : Some finally.deal ≡ Some (marked given middle.mark) =
      sym finally.live ∙ ap (λ (t : Transaction). t.deal) middle.slot in
      cc

  unmarked : middle.mark ≡ false
  unfolding marked
  unmarked = ap (λ (d : Deal). d.retrieved) (sym same_deal) ∙ finally.unmarked

  -- (a) the records
  record_back : (p : PageId) → is_in p ps ≡ true → record_at (after b last).machine.records p ≡ record_at s.machine.records p
  unfolding reclaimed settled marked holds count_of count_in page_at
  record_back p e =
      let held : holds (transaction_at last.machine.transactions h) p ≡ true = rw middle.slot (has_page p e) in
      let below = page_below last.machine middle.fit.sound h finally.deal p finally.is_handle finally.live held in
      ap (λ (r : List PageRecord). record_at r p) finally.records
      ∙ recorded_same last.machine.records (transaction_at last.machine.transactions h) _ p held
      (omega (arith, below, middle.fit.shaped.sixty_four_records, middle.fit.sound.counts_in_range.sixty_four_pages))
      ∙ ap (λ (d : Deal). owned_row d.sender) same_deal
      ∙ sym (first.facts.were_own p e)

  -- (b) the words
  word_back : (x : ℕ) → is_in (page_of x) ps ≡ true
      → loaded (after b last).memory x ≡ last_stored x (events acts (after a s)) (loaded s.memory x)
  word_back x e =
      ap (λ (l : List ℕ). loaded l x) finally.memory
      ∙ middle.words x (has_page (page_of x) e)
      ∙ ap (λ (l : List ℕ). last_stored x (events acts (after a s)) (loaded l x)) first.memory

  -- (c) the stores
  store_between : (q x v : ℕ) (g : VmId) → event_at (events acts (after a s)) q ≡ Stored g x v → is_in (page_of x) ps ≡ true
      → ((k ≡ Share) × (g ≡ i)) ⊎ ((g ≡ j) × Between (events acts (after a s)) q j h)
  unfolding StoreFits
  store_between q x v g e at =
      between j h (StoreFits given pages) ((k ≡ Share) × (g ≡ i)) (g ≡ j) (Stored g x v) (λ p. false≢true cc)
      (λ mark fits.
      elim (fits g x v refl (has_page (page_of x) at)) [
        | inl (shared, by) ↦ inl (shares_share k shared, by)
        | inr (by, set) ↦ inr (by, set)
      ])
      middle.marks refl unmarked (λ p. false≢true cc) q e

pub reclaim_promise : ReclaimPromise
reclaim_promise s a acts b k i j h ps story =
    record {
      records = record_back s a acts b k i j h ps story;
      words = word_back s a acts b k i j h ps story;
      stores = store_between s a acts b k i j h ps story;
    }
