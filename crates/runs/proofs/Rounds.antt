-- One round of a run: a burst of the current guest, and then the end, or its call in the way in which the code makes it.
-- Assumes nothing.
use Rattle.model.specs.ToCall.{made}
use Rattle.std.specs.Prelude.{Option, None, Some}
use Rattle.std.proofs.Common.{◌≡◌, ℕ, ◌<◌, ◌≤◌, Bool, true, false, List, length, get_or, set, sym, ap, ◌∙◌, arith, set-set, lt-length-set, Option, Some}
use Rattle.std.specs.declared.option.Option.TheVariants as option
use Rattle.model.specs.declared.VmId.{VmId}
use Rattle.model.specs.declared.Registers.{Registers}
use Rattle.model.specs.declared.Machine.{Machine}
use Rattle.model.specs.State.{State, state, primary, plus, register, argument, registers_at, own_registers, own_mailbox, is_normal, with_registers, with_current, mailbox_at}
use Rattle.model.specs.Rights.{rights, Rights}
use Rattle.model.specs.Execute.{advanced}
use Rattle.model.specs.Call.{call_effect}
use Rattle.model.specs.Step.{with_own, hvc}
use Rattle.model.specs.Kept.{Fit}
use Rattle.model.proofs.Kept.{call_keeps_sound}
use Rattle.exec.specs.declared.instruction.Stop.{Stop}
use Rattle.exec.specs.declared.switch.Switch.{Switch}
use Rattle.exec.specs.declared.switch.Switch.TheVariants.{Other, Stay, Wake, To}
use Rattle.exec.specs.declared.rights.Maps.{Maps}
use Rattle.exec.specs.Maps.{by_maps, pages_for}
use Rattle.exec.specs.Turn.{turn, file_of}
use Rattle.exec.specs.Burst.{Burst, burst, burst_of}
use Rattle.exec.specs.Switch.{switched, switch_of}
use Rattle.runs.specs.Advance.{Rest, rest, advance_of, by_call, ended_by, after_stop, after_burst, told_of}
use Rattle.exec.proofs.Bursts.{burst_rights}
use Rattle.runs.proofs.Resumes.{own_again, resumes}
use Rattle.runs.proofs.Effects.{switch_other, switch_stay, switch_to, switch_wake}
use Rattle.runs.proofs.Fits.{current_file, own_same, own_fits, fit_eight, burst_fits, burst_takes, call_mode, current_below}
use Rattle.runs.proofs.Ready.{MapsOf, ReadyFor, ready_more}

-- before a burst: what is left to be run is the rest of the whole
pub record Going (whole : Rest) (onlyToCall : Bool) (left : ℕ) (m : Machine) (memory : List ℕ) : Type 0 where
  pub fit : Fit (state m memory)
  pub normal : is_normal m.mode ≡ true
  pub same : advance_of onlyToCall left (state m memory) ≡ whole

-- after it, with the guest's registers put back: the end, or the call and what follows it, is the rest of the whole
pub record Stopped (whole : Rest) (onlyToCall : Bool) (budget : ℕ) (m : Machine) (b : Burst) : Type 0 where
  pub less : b.left < budget
  pub fit : Fit (state (with_own m b.last.file) b.last.memory)
  pub low : m.current.0 < length m.registers
  pub normal : is_normal m.mode ≡ true
  pub same : after_burst onlyToCall m b ≡ whole

module _ {whole : Rest} {onlyToCall : Bool} {budget : ℕ} {m : Machine} {memory : List ℕ} (going : Going whole onlyToCall budget m memory)
    {maps : Maps} (of_own : MapsOf m.records m.m m.mailboxes m.current.0 maps)
    {b : Burst} (was : b ≡ burst_of (by_maps maps.loads maps.stores) budget (own_registers m) memory) where
  -- the burst, with the rights of the machine
  by_rights : b ≡ burst_of (rights m) budget (own_registers m) memory
  unfolding own_mailbox
  by_rights =
      was
      ∙ rw (of_own.by_tx, of_own.by_rx) (burst_rights m budget (own_registers m) memory going.fit.whole)

  pub bursts : 0 < budget → Stopped whole onlyToCall budget m b
  bursts some =
      record {
        less = rw was (burst_takes _ budget (own_registers m) memory some);
        fit = burst_fits m memory budget b going.fit by_rights;
        low = current_file going.fit;
        normal = going.normal;
        same =
            ap (after_burst onlyToCall m) by_rights
            ∙ sym (resumes onlyToCall m budget memory (current_file going.fit) going.normal)
            ∙ going.same;
      }

-- The maps of the current guest: those that are kept, or made ones.

module _ {whole : Rest} {onlyToCall : Bool} {budget size : ℕ} {m : Machine} {memory : List ℕ} {kept : List (Option Maps)}
    (begun : Going whole onlyToCall budget m memory × (ReadyFor m kept × (length memory ≡ size))) {maps : Maps} where
  pub maps_kept : {found : Maps} → get_or kept m.current.0 option.None ≡ Some found → maps ≡ found
      → MapsOf m.records m.m m.mailboxes m.current.0 maps
  maps_kept is e = rw e (begun.1.0.of_kept m.current.0 _ is)

  pub maps_made : {made : Maps}
      → (made.loads ≡ pages_for m.records m.m m.current (mailbox_at m.mailboxes m.current).tx)
      × (made.stores ≡ pages_for m.records m.m m.current (mailbox_at m.mailboxes m.current).rx)
      → maps ≡ made → MapsOf m.records m.m m.mailboxes m.current.0 maps
  maps_made is e = rw e (record { by_tx = is.0; by_rx = is.1 })

  -- they are kept from now on
  pub own_kept : MapsOf m.records m.m m.mailboxes m.current.0 maps → ReadyFor m (set kept m.current.0 (Some maps))
  own_kept own = ready_more m (current_below begun.0.fit) own begun.1.0

-- a burst takes something of its budget
pub burst_less : (rights : Rights) (budget : ℕ) (file : Registers) (memory : List ℕ) {b : Burst} → b ≡ burst_of rights budget file memory
    → 0 < budget → b.left < budget
burst_less rights budget file memory was some = rw was (burst_takes rights budget file memory some)

-- nothing is left
pub over : {whole : Rest} {onlyToCall : Bool} {left : ℕ} {m : Machine} {memory : List ℕ} → Going whole onlyToCall left m memory → left ≤ 0
    → rest (state m memory) 0 None ≡ whole
unfolding advance_of
over {whole} {onlyToCall} {left} {m} {memory} going none =
    let is_zero : left ≡ 0 = omega arith in
    rw is_zero at going.same

module _ {whole : Rest} {onlyToCall : Bool} {budget : ℕ} {m : Machine} {stop : Stop} {file : Registers}
    {memory : List ℕ} {left : ℕ} (stopped : Stopped whole onlyToCall budget m (burst (turn stop file memory) left)) where
  -- No call: the end.

  pub stops : by_call stop ≡ false → {after : Machine} → after ≡ ended_by stop (with_own m file)
      → rest (state after memory) left None ≡ whole
  unfolding after_burst after_stop
  stops e was =
      ap (λ (k : Machine). rest (state k memory) left None) was
      ∙ ap (λ (b : Bool). after_stop onlyToCall b stop (state (with_own m file) memory) left) (sym e)
      ∙ stopped.same

  -- A call: the caller's pc goes on first.

  abbrev asked : Machine
  asked = with_own m (advanced file)

  own_asked : own_registers asked ≡ advanced file
  own_asked = own_same m (advanced file) stopped.low

  asked_low : m.current.0 < length asked.registers
  unfolding with_own
  asked_low = lt-length-set m.registers m.current.0 _ stopped.low

  asked_fits : Fit (state asked memory)
  unfolding advanced
  asked_fits =
      let eight : length file.r ≡ 8 = rw (own_same m file stopped.low) at (fit_eight _ memory stopped.fit) in
      rw (own_again m file (advanced file)) at (own_fits (with_own m file) memory (advanced file) stopped.fit eight)

  hvc_calls : call_effect (state asked memory) ≡ hvc (state (with_own m file) memory)
  unfolding hvc
  hvc_calls = rw (own_same m file stopped.low, own_again m file (advanced file))

  -- Yield and Run in place, and every other call: with the caller's registers as `switched` left them.

  module _ {next : Switch} {after : List ℕ} (was : switched next after ≡ switch_of file.r m.current m.n) where
    -- the caller's registers, put back
    abbrev pub put : Registers
    put = file_of after (plus file.pc 1) file.equal

    switched_to : (way : Switch) → next ≡ way → switch_of (own_registers asked).r m.current m.n ≡ switched way after
    unfolding advanced
    switched_to way e = rw (own_asked, ← was, e)

    untouched : after ≡ (own_registers asked).r → with_own m put ≡ asked
    unfolding advanced
    untouched e = rw (e, own_asked)

    other_untouched : next ≡ Other → with_own m put ≡ asked
    unfolding with_own
    other_untouched e = untouched (switch_other _ memory asked_low (switched_to Other e))

    pub other_calls : next ≡ Other → call_effect (state (with_own m put) memory) ≡ hvc (state (with_own m file) memory)
    other_calls e = rw (other_untouched e) hvc_calls

    pub other_fits : next ≡ Other → Fit (state (with_own m put) memory)
    other_fits e = rw (other_untouched e) asked_fits

    pub stay_calls : next ≡ Stay → state (with_own m put) memory ≡ hvc (state (with_own m file) memory)
    unfolding with_own advanced
    stay_calls e =
        sym (rw (own_asked, own_again m (advanced file) put) at (switch_stay asked memory asked_low (switched_to Stay e))) ∙ hvc_calls

    pub to_calls : {g : VmId} → next ≡ To g → state (with_current (with_own m put) g) memory ≡ hvc (state (with_own m file) memory)
    unfolding with_own
    to_calls {g} e =
        let to = switch_to asked memory asked_low (switched_to (To g) e) in
        ap (λ (k : Machine). state (with_current k g) memory) (untouched to.0) ∙ sym to.1 ∙ hvc_calls

    pub wake_calls : next ≡ Wake
        → {first : Registers} → first ≡ told_of (registers_at (with_own m put).registers primary) m.current
        → state (with_current (with_registers m (set (with_own m put).registers 0 first)) primary) memory
        ≡ hvc (state (with_own m file) memory)
    unfolding with_own advanced
    wake_calls e told =
        rw told
        (sym (rw (own_asked, set-set m.registers m.current.0 (advanced file) put) at
        (switch_wake asked memory asked_low (switched_to Wake e)))
        ∙ hvc_calls)

  -- After a call.

  module _ (is_call : by_call stop ≡ true) {k : Machine} {last : List ℕ} (did : state k last ≡ hvc (state (with_own m file) memory)) where
    -- which of the two ways on it is
    after_call : (only : Bool) → onlyToCall ≡ only → after_stop only true stop (state (with_own m file) memory) left ≡ whole
    unfolding after_burst
    after_call only which =
        ap (λ (b : Bool). after_stop only b stop (state (with_own m file) memory) left) (sym is_call)
        ∙ ap (λ (b : Bool). after_stop b (by_call stop) stop (state (with_own m file) memory) left) (sym which)
        ∙ stopped.same

    -- the end, if only the way to the call is wanted
    pub call_made : onlyToCall ≡ true → rest (state k last) left (Some (made m.current (get_or file.r 0 0))) ≡ whole
    unfolding after_stop with_own argument register
    call_made only =
        let r0 : get_or file.r 0 0 ≡ argument (with_own m file) 0 =
        ap (λ (own : Registers). register own 0) (sym (own_same m file stopped.low)) in
        rw (did, r0) (after_call true only)

    -- and else the next round
    pub again : onlyToCall ≡ false → Going whole onlyToCall left k last
    unfolding after_stop with_own
    again only =
        let called : state k last ≡ call_effect (state asked memory) = did ∙ sym hvc_calls in
        record {
          fit = rw called (call_keeps_sound _ asked_fits).fit;
          normal =
              ap (λ (t : State). is_normal t.machine.mode) called
              ∙ ap is_normal (call_mode (state asked memory))
              ∙ stopped.normal;
          same = rw (did, only) (after_call false only);
        }

-- Where the ways of a call meet: what it did, and what is kept for the next round.

pub record Met (after : State) (size : ℕ) (m : Machine) (memory : List ℕ) (kept : List (Option Maps)) : Type 0 where
  pub did : state m memory ≡ after
  pub long : length memory ≡ size
  pub ready : ReadyFor m kept

pub meets : {after : State} {size : ℕ} {m k : Machine} {memory last : List ℕ} {kept now : List (Option Maps)}
    → memory ≡ last → m ≡ k → kept ≡ now
    → state k last ≡ after → length last ≡ size → ReadyFor k now → Met after size m memory kept
meets {after} {size} {m} {k} {memory} {last} {kept} {now} e f g did long ready =
    let met : Met after size k last now = record { did = did; long = long; ready = ready } in
    rw (e, f, g) met
