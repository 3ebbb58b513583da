-- A sound machine of the code's shape stays one when its registers, its inboxes, the current guest or the mode change.
use Rattle.model.specs.State.{message, own_registers, vm, primary, is_primary, registers_at, written, inbox_at, with_inbox, changed, with_registers, with_inboxes, with_current, with_mode}
use Rattle.std.specs.Prelude.{Option, None, Some}
use Rattle.model.specs.declared.Message.{Message}
use Prim.Native.Nat.{ℕ, ◌≤◌, ◌<◌}
use mathlib.Core.Path.{◌≡◌, refl, ap, sym, ◌∙◌}
use mathlib.Core.Bool.{Bool, true, false, cond, false≢true}
use mathlib.Core.List.{List}
use native.Mathlib.Decide.{ℕ_discrete}
use native.Mathlib.Omega.{arith}
use lib.ListN.{length, set, length-set}
use Rattle.model.specs.declared.VmId.{VmId}
use Rattle.model.specs.declared.Handle.{Handle}
use Rattle.model.specs.declared.Registers.{Registers}
use Rattle.model.specs.declared.Mode.{Mode}
use Rattle.model.specs.declared.Machine.{Machine}
use Rattle.model.specs.Constants.{GUESTS, PAGE, SEND, ERROR, SUCCESS}
use Rattle.model.specs.Shaped.{Shaped}
use Rattle.model.specs.Sound.{EachMessage, Sound}
use Rattle.model.specs.Reply.{passes, with_error, succeeded, told, woken, handed_over}
use Rattle.model.specs.Poll.{noted, polled}
use Rattle.model.specs.Send.{send_to, send_length, send_verdict, notified, delivered}
use Rattle.model.specs.Sending.{with_handle}
use Rattle.model.specs.Step.{with_own}
use Rattle.model.proofs.State.{file_same, file_other, inbox_same, inbox_other}
use Rattle.model.proofs.Send.{message_passed}

-- sound, and of the code's shape
abbrev pub Good : Machine → Type 0
Good m = Shaped m × Sound m

-- The one law: what the new parts must be.

-- registers for the machine: of the code's shape, and as they were for those who are no guests
record Files (m : Machine) (files : List Registers) : Type 0 where
  eight : length files ≡ GUESTS
  eight_each : (g : ℕ) → g < GUESTS → length (registers_at files (vm g)).r ≡ 8
  rest_stay : (g : ℕ) → m.n ≤ g → registers_at files (vm g) ≡ registers_at m.registers (vm g)

-- a message for guest g is in range, and from another guest
record ProperMessage (m : Machine) (g : VmId) (length : ℕ) (sender : VmId) : Type 0 where
  in_range : (1 ≤ length) × (length ≤ PAGE)
  from_guest : sender.0 < m.n
  from_other : sender ≡ g → ⊥

-- inboxes likewise
record Inboxes (m : Machine) (slots : List (Option Message)) : Type 0 where
  eight : length slots ≡ GUESTS
  messages : EachMessage m.n slots (ProperMessage m)
  rest_stay : (g : ℕ) → m.n ≤ g → inbox_at slots (vm g) ≡ inbox_at m.inboxes (vm g)

same_files : (m : Machine) → Good m → Files m m.registers
same_files m (shaped, sound) =
    record { eight = shaped.eight_files; eight_each = shaped.eight_registers; rest_stay = λ g l. refl }

same_inboxes : (m : Machine) → Good m → Inboxes m m.inboxes
same_inboxes m (shaped, sound) =
    record {
      eight = shaped.eight_inboxes;
      messages = λ g length sender l e. record {
        in_range = sound.lengths_in_range g length sender l e;
        from_guest = sound.senders_below g length sender l e;
        from_other = sound.no_own_sender g length sender l e;
      };
      rest_stay = λ g l. refl;
    }

-- every other clause reads none of the new parts
parts_keep : (m : Machine) → Good m
    → {files : List Registers} → Files m files → {slots : List (Option Message)} → Inboxes m slots
    → (current : VmId) → current.0 < m.n → (mode : Mode)
    → Good (changed m files slots m.records m.transactions current mode)
parts_keep m (shaped, sound) f s current below mode = (
  record {
    eight_files = f.eight;
    eight_registers = f.eight_each;
    eight_mailboxes = shaped.eight_mailboxes;
    eight_inboxes = s.eight;
    sixty_four_records = shaped.sixty_four_records;
    sixteen_transactions = shaped.sixteen_transactions;
    eight_places = shaped.eight_places;
  },
  record {
    counts_in_range = sound.counts_in_range;
    page_counts_in_range = sound.page_counts_in_range;
    lengths_in_range = λ g length sender l e. (s.messages g length sender l e).in_range;
    mailboxes_differ = sound.mailboxes_differ;
    mailboxes_below = sound.mailboxes_below;
    current_below = below;
    owners_below = sound.owners_below;
    senders_below = λ g length sender l e. (s.messages g length sender l e).from_guest;
    no_own_sender = λ g length sender l e. (s.messages g length sender l e).from_other;
    parties_differ = sound.parties_differ;
    parties_below = sound.parties_below;
    pages_ascend = sound.pages_ascend;
    pages_below = sound.pages_below;
    pages_no_mailbox = sound.pages_no_mailbox;
    no_donation_retrieved = sound.no_donation_retrieved;
    no_page_twice = sound.no_page_twice;
    records_due = sound.records_due;
    guests_blank = λ g l from. rw (f.rest_stay g from, s.rest_stay g from) (sound.guests_blank g l from);
    pages_blank = sound.pages_blank;
    places_blank = sound.places_blank;
  },
)

-- Registers.

-- one guest's file replaced by another of eight registers
pub file_keeps : (m : Machine) → Good m → (g : VmId) (file : Registers) → g.0 < m.n → length file.r ≡ 8
    → Good (with_registers m (set m.registers g.0 file))
file_keeps m (shaped, sound) g file below eight =
    parts_keep
    m (shaped, sound)
    (record {
      eight = length-set m.registers g.0 file ∙ shaped.eight_files;
      eight_each = each;
      rest_stay = λ k from. file_other m.registers g (vm k) file (λ e. omega arith);
    })
    (same_inboxes m (shaped, sound))
    m.current sound.current_below m.mode
  where
    each : (k : ℕ) → k < GUESTS → length (registers_at (set m.registers g.0 file) (vm k)).r ≡ 8
    each k low =
        elim (ℕ_discrete k g.0) [
          | yes e ↦ rw (e, file_same m.registers g file (omega (arith, shaped.eight_files))) eight
          | no e ↦ rw (file_other m.registers g (vm k) file e) (shaped.eight_registers k low)
        ]

-- the current guest has eight registers
pub own_eight : (m : Machine) → Good m → length (own_registers m).r ≡ 8
unfolding own_registers
own_eight m good =
    good.0.eight_registers m.current.0 (omega (arith, good.1.current_below, good.1.counts_in_range.eight_guests))

pub own_keeps : (m : Machine) → Good m → (file : Registers) → length file.r ≡ 8 → Good (with_own m file)
unfolding with_own
own_keeps m good file eight = file_keeps m good m.current file good.1.current_below eight

-- one register of a guest written
pub written_keeps : (m : Machine) → Good m → (g : VmId) (i v : ℕ) → g.0 < m.n → Good (with_registers m (written m.registers g i v))
unfolding written
written_keeps m good g i v below =
    file_keeps m good g _ below
    (length-set (registers_at m.registers g).r i v
    ∙ good.0.eight_registers g.0 (omega (arith, good.1.counts_in_range.eight_guests)))

pub error_keeps : (m : Machine) → Good m → (code : ℕ) → Good (with_error m code)
unfolding with_error
error_keeps m good code =
    let below = good.1.current_below in
    written_keeps _ (written_keeps m good m.current 0 ERROR below) m.current 2 code below

pub success_keeps : (m : Machine) → Good m → Good (succeeded m)
unfolding succeeded
success_keeps m good = written_keeps m good m.current 0 SUCCESS good.1.current_below

pub handle_keeps : (m : Machine) → Good m → (h : Handle) → Good (with_handle m h)
unfolding with_handle
handle_keeps m good h = written_keeps m good m.current 2 h.0 good.1.current_below

-- there is a guest 0
primary_below : (m : Machine) → Good m → 0 < m.n
primary_below m good = omega (arith, good.1.counts_in_range.two_guests)

told_keeps : (m : Machine) → Good m → (why : ℕ) (caller : VmId) → Good (with_registers m (told m.registers why caller))
unfolding told
told_keeps m good why caller =
    let below = primary_below m good in
    written_keeps _ (written_keeps m good primary 0 why below) primary 1 caller.0 below

-- The current guest and the mode.

pub current_keeps : (m : Machine) → Good m → (g : VmId) → g.0 < m.n → Good (with_current m g)
current_keeps m good g below = parts_keep m good (same_files m good) (same_inboxes m good) g below m.mode

pub mode_keeps : (m : Machine) → Good m → (mode : Mode) → Good (with_mode m mode)
mode_keeps m good mode = parts_keep m good (same_files m good) (same_inboxes m good) m.current good.1.current_below mode

-- guest 0 becomes current, with the registers if a secondary called
woken_keeps : (m : Machine) → Good m → (files : List Registers) → Good (with_registers m files) → Good (woken m files)
unfolding woken
woken_keeps m good files with-files = go (is_primary m.current)
  where
    go : (b : Bool) → Good (with_current (with_registers m (cond b m.registers files)) primary)
    go true = current_keeps m good primary (primary_below m good)
    go false = current_keeps (with_registers m files) with-files primary (primary_below m good)

pub handed_over_keeps : (m : Machine) → Good m → (why : ℕ) → Good (handed_over m why)
unfolding handed_over
handed_over_keeps m good why = woken_keeps m good _ (told_keeps m good why m.current)

pub notified_keeps : (m : Machine) → Good m → (receiver : VmId) → Good (notified m receiver)
unfolding notified
notified_keeps m good receiver =
    woken_keeps m good _ (written_keeps _ (told_keeps m good SEND m.current) primary 2 receiver.0 (primary_below m good))

-- Inboxes.

-- one guest's inbox replaced: every message is as it must be, if one that is there now is
inbox_keeps : (m : Machine) → Good m → (g : VmId) (inbox : Option Message) → g.0 < m.n
    → ((length : ℕ) (sender : VmId) → inbox ≡ Some (message length sender) → ProperMessage m g length sender)
    → Good (with_inboxes m (with_inbox m.inboxes g inbox))
inbox_keeps m (shaped, sound) g inbox below new =
    parts_keep
    m (shaped, sound)
    (same_files m (shaped, sound))
    (record {
      eight = length-set m.inboxes g.0 _ ∙ shaped.eight_inboxes;
      messages = messages;
      rest_stay = λ k from. inbox_other m.inboxes g (vm k) inbox (λ e. omega arith);
    })
    m.current sound.current_below m.mode
  where
    fits : g.0 < length m.inboxes
    fits = omega (arith, sound.counts_in_range.eight_guests, shaped.eight_inboxes)

    messages : EachMessage m.n (with_inbox m.inboxes g inbox) (ProperMessage m)
    messages k length sender low here =
        elim (ℕ_discrete k g.0) [
          | yes e ↦ rw e (new length sender (sym (inbox_same m.inboxes g inbox fits) ∙ (rw e at here)))
          | no e ↦
              (same_inboxes m (shaped, sound)).messages k length sender low
              (sym (inbox_other m.inboxes g (vm k) inbox e) ∙ here)
        ]

pub emptied_keeps : (m : Machine) → Good m → (g : VmId) → g.0 < m.n → Good (with_inboxes m (with_inbox m.inboxes g None))
emptied_keeps m good g below = inbox_keeps m good g None below (λ length sender e. absurd (false≢true cc))

pub polled_keeps : (m : Machine) → Good m → Good (polled m)
unfolding polled noted
polled_keeps m good =
    let below = good.1.current_below in
    emptied_keeps
    _ (written_keeps _ (written_keeps _ (written_keeps m good m.current 0 SEND below) m.current 1 _ below) m.current 2 _ below)
    m.current below

pub filled_keeps : (m : Machine) → Good m → (g : VmId) (length : ℕ) (sender : VmId) → g.0 < m.n
    → (1 ≤ length) × (length ≤ PAGE) → sender.0 < m.n → (sender ≡ g → ⊥)
    → Good (with_inboxes m (with_inbox m.inboxes g (Some (message length sender))))
filled_keeps m good g length sender below range low other =
    inbox_keeps m good g (Some (message length sender)) below (λ len from e.
    let same : ◌≡◌ {A = Message} (message length sender) (message len from) = cc in
    let same_length : length ≡ len = ap (λ (w : Message). w.length) same in
    let same-sender : sender ≡ from = ap (λ (w : Message). w.sender) same in
    rw (← same_length, ← same-sender) (record { in_range = range; from_guest = low; from_other = other }))

pub delivered_keeps : (m : Machine) → Good m → send_verdict m ≡ passes → Good (delivered m)
unfolding delivered
delivered_keeps m good e =
    let known = message_passed m e in
    filled_keeps
    m good (send_to m) (send_length m) m.current
    known.to_other.0 known.in_range good.1.current_below (λ own. known.to_other.1 (sym own))
