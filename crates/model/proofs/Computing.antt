-- What has to unfold for an entry's definition to compute: named once, for every theorem that computes one.
use Rattle.isa.specs.Tests.{◌and◌, ◌or◌}
use Rattle.isa.specs.Opcodes.{opcodes, opcode_at}
use Rattle.isa.specs.Word.{fits_shape, legal}
use Rattle.isa.specs.Decode.{meaning_of, decode_of}
use Rattle.model.specs.Tests.{agree, every, some, or_next, first, ascending, set_each}
use Rattle.model.specs.Answer.{answer_number, answers}
use Rattle.model.specs.State.{same_vm, same_page, is_primary, registers_at, register, written, mailbox_at, inbox_at, is_empty, length_of, sender_of, record_at, transaction_at, page_at, count_in, count_of, is_normal, own_registers, own_mailbox, own_inbox, argument, plus}
use Rattle.model.specs.VmSet.{has, only, with, same_set}
use Rattle.model.specs.Row.{kind_number, shares, donates, sends, receives, holders, mailbox_row, free_row, row, same_owner, same_record}
use Rattle.model.specs.Due.{keeps, is_mailbox, keeper, holds, holder, due_in, due}
use Rattle.model.specs.Sound.{if_live, each_deal, each_page, if_full, each_message, if_owned, counts_in_range, page_counts_in_range, lengths_in_range, apart, mailboxes_differ, mailboxes_below, owners_below, senders_below, no_own_sender, parties_differ, parties_below, pages_ascend, pages_below, pages_no_mailbox, no_donation_retrieved, no_page_twice, records_due, blank_guest, guests_blank, pages_blank, places_blank, sound}
use Rattle.model.specs.Rights.{right, rights, access}
use Rattle.model.specs.Memory.{base_of, fetched, loaded, tx_words, tx_word}
use Rattle.model.specs.Execute.{minus, topped, advanced, gets, if_allowed, perform, execute, guest_step}
use Rattle.model.specs.Reply.{need, with_error, answer, succeeded, told, woken, handed_over, is_other}
use Rattle.model.specs.Run.{run_verdict, run_effect}
use Rattle.model.specs.Yield.{yield_effect}
use Rattle.model.specs.Poll.{poll_verdict, noted, polled, poll_effect}
use Rattle.model.specs.Wait.{wait_verdict, wait_effect}
use Rattle.model.specs.Send.{send_to, send_length, send_base, send_verdict, notified, delivered, copied, send_effect}
use Rattle.model.specs.Deeds.{recorded, settled, marked, redealt, retrieved, relinquished, reclaimed}
use Rattle.model.specs.Blank.{blank_registers}
use Rattle.model.specs.Sending.{sent_kind, sent_to, sent_base, sent_page, sent_length, sent_count, is_free, lowest_free, granted, is_base, may_be_sent, sending_verdict, sent_deal, sent_transaction, sent, with_handle, sending_effect}
use Rattle.model.specs.HandleCall.{found_in, lookup, in_place, handle_verdict, applied, own_found, handle_effect}
use Rattle.model.specs.Retrieve.{retrieve_effect}
use Rattle.model.specs.Relinquish.{relinquish_effect}
use Rattle.model.specs.Reclaim.{reclaim_effect}
use Rattle.model.specs.Call.{not_supported, chosen, call_effect}
use Rattle.model.specs.Step.{with_own, hvc, fault, halt, ended, step_effect}
use Rattle.model.specs.Entries.{judged, check_of, then_mode, acted_by, step_of, call_of}

unfoldable pub entries_compute : Unit {0}
unfolding blank_registers ◌and◌ ◌or◌ opcodes opcode_at fits_shape legal meaning_of decode_of agree every some or_next first ascending set_each same_vm same_page is_primary registers_at register written mailbox_at inbox_at is_empty length_of sender_of record_at transaction_at page_at count_in count_of is_normal own_registers own_mailbox own_inbox argument plus has only with same_set shares donates sends receives holders mailbox_row free_row row same_owner same_record keeps is_mailbox keeper holds holder due_in due if_live each_deal each_page if_full each_message if_owned counts_in_range page_counts_in_range lengths_in_range apart mailboxes_differ mailboxes_below owners_below senders_below no_own_sender parties_differ parties_below pages_ascend pages_below pages_no_mailbox no_donation_retrieved no_page_twice records_due blank_guest guests_blank pages_blank places_blank sound right rights access base_of fetched loaded tx_words tx_word minus topped advanced gets if_allowed perform execute guest_step need with_error answer succeeded told woken handed_over is_other run_verdict run_effect yield_effect poll_verdict noted polled poll_effect wait_verdict wait_effect send_to send_length send_base send_verdict notified delivered copied send_effect recorded settled marked redealt retrieved relinquished reclaimed kind_number sent_kind sent_to sent_base sent_page sent_length sent_count is_free lowest_free granted is_base may_be_sent sending_verdict sent_deal sent_transaction sent with_handle sending_effect found_in lookup in_place handle_verdict applied own_found handle_effect retrieve_effect relinquish_effect reclaim_effect not_supported chosen call_effect with_own hvc fault halt ended step_effect answer_number answers judged check_of then_mode acted_by step_of call_of
entries_compute = tt
