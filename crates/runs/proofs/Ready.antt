-- The maps that a run keeps: those of a guest's rights, as the records and the mailboxes give them, or none. Assumes nothing.
use Rattle.std.proofs.Common.{◌≡◌, ℕ, zero, suc, ◌<◌, List, length, get_or, set, replicate, sym, refl, ◌∙◌, arith, length-set, get_or-set_other, get_or-set_same, Option, Some, None}
use Rattle.std.proofs.lemmas.Option.{none-some, same_Some}
use native.Mathlib.Decide.{ℕ_discrete}
use Rattle.model.specs.declared.Mailbox.{Mailbox}
use Rattle.model.specs.declared.PageRecord.{PageRecord}
use Rattle.model.specs.declared.Machine.{Machine}
use Rattle.model.specs.Constants.{GUESTS}
use Rattle.model.specs.State.{vm, mailbox_at}
use Rattle.exec.specs.declared.rights.Maps.{Maps}
use Rattle.exec.specs.Maps.{pages_for}

-- the maps of guest g
pub record MapsOf (records : List PageRecord) (pages : ℕ) (boxes : List Mailbox) (g : ℕ) (maps : Maps) : Type 0 where
  pub by_tx : maps.loads ≡ pages_for records pages (vm g) (mailbox_at boxes (vm g)).tx
  pub by_rx : maps.stores ≡ pages_for records pages (vm g) (mailbox_at boxes (vm g)).rx

-- of every guest whose maps are kept
pub record Ready (records : List PageRecord) (pages : ℕ) (boxes : List Mailbox) (kept : List (Option Maps)) : Type 0 where
  pub eight : length kept ≡ GUESTS
  pub of_kept : (g : ℕ) (maps : Maps) → get_or kept g None ≡ Some maps → MapsOf records pages boxes g maps

-- for the guests of a machine
abbrev pub ReadyFor : Machine → List (Option Maps) → Type 0
ReadyFor m kept = Ready m.records m.m m.mailboxes kept

-- nobody's are kept
none_kept : (n g : ℕ) (maps : Maps) → get_or (replicate n None) g None ≡ Some maps → ⊥
none_kept zero g maps = none-some maps
none_kept (suc n) zero maps = none-some maps
none_kept (suc n) (suc g) maps = none_kept n g maps

pub ready_none : (m : Machine) → ReadyFor m (replicate 8 None)
ready_none m = record { eight = refl; of_kept = λ g maps e. absurd (none_kept 8 g maps e) }

-- one guest's are kept from now on
pub ready_more : (m : Machine) {kept : List (Option Maps)} {g : ℕ} {maps : Maps} → g < GUESTS
    → MapsOf m.records m.m m.mailboxes g maps → ReadyFor m kept → ReadyFor m (set kept g (Some maps))
ready_more m {kept} {g} {maps} low new ready = record { eight = length-set kept g (Some maps) ∙ ready.eight; of_kept = each }
  where
    each : (k : ℕ) (found : Maps) → get_or (set kept g (Some maps)) k None ≡ Some found → MapsOf m.records m.m m.mailboxes k found
    each k found e =
        elim (ℕ_discrete k g) [
          | yes q ↦
              let it : Some maps ≡ Some found =
              sym (get_or-set_same kept g (Some maps) None (omega (arith, ready.eight))) ∙ (rw q at e) in
              rw (q, ← same_Some maps found it) new
          | no q ↦ ready.of_kept k found (sym (get_or-set_other kept g k (Some maps) None q) ∙ e)
        ]
