-- `control::send::copied` meets its contract: the words that the copier takes stand at the front of its array, and the page that
-- is lent to it comes back with them over its first ones.
use Rattle.std.proofs.Common.{arith, ◌≡◌, ℕ, ◌+◌, ◌≤◌, List, ◌++◌, length, length-drop, take, drop}
use Rattle.std.proofs.Math.Seq.{paste}
use Rattle.std.proofs.lemmas.List.{length-take-le}
use borrow.Rule.Slice.PartMut.{put_mid}
use Rattle.model.specs.Constants.{PAGE}
use Rattle.model.specs.Memory.{base_of}
use Rattle.control.proofs.Message.{page_back}
use Rattle.control.proofs.send.copied.Goals as goal

words_sent : (mem sent : List ℕ) (from base n taken page : ℕ) → taken ≡ n → page ≡ PAGE
    → n ≤ PAGE → from + PAGE ≤ length mem → base + PAGE ≤ length mem
    → take (length (take taken (drop from mem))) sent ≡ take taken (drop from mem)
    → put_mid base page mem (take n sent ++ drop (length (take n sent)) (take page (drop base mem))) ≡ paste mem base (drop from mem) n
words_sent mem sent from base n taken page p q h b d e =
    let long : length (take n (drop from mem)) ≡ n = length-take-le n (drop from mem) (omega (arith, length-drop from mem)) in
    let same : take n sent ≡ take n (drop from mem) = rw (p, long) at e in
    rw (q, same, page_back mem (take n (drop from mem)) base PAGE (rw long h) d, long)

pub returns : goal.returns
unfolding base_of
returns c = rw c.put.ensures (words_sent _ _ _ _ _ _ _ (omega arith) (omega arith) c.requires.0 c.requires.1 c.requires.2 c.taken-sent.ensures)
