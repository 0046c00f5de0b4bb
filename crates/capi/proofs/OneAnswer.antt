-- No second answer, and no second bytes of a lent buffer, meet the promises of reading and feeding (`one_answer`, crate bits).
-- Assumes nothing.
use mathlib.Core.List.{List}
use mathlib.Core.Path.{◌≡◌}
use Prim.Native.Nat.{ℕ}
use Rattle.bits.proofs.OneAnswer.{one_answer}
use Rattle.capi.specs.Calls.{open_answer, open_state, feed_answer, feed_state, feed_records, finish_answer, finish_report}
use Rattle.capi.specs.Listing.{Reads}

-- `drom_read`
pub read_one : {list drom records report : List ℕ} {r s : ℕ} {recordsʳ recordsˢ reportʳ reportˢ : List ℕ}
    → Reads list drom records report r recordsʳ reportʳ → Reads list drom records report s recordsˢ reportˢ
    → (r ≡ s) × (recordsʳ ≡ recordsˢ) × (reportʳ ≡ reportˢ)
read_one p q = (one_answer p.answers q.answers, one_answer p.writes q.writes, one_answer p.tells q.tells)

-- `drom_open`
pub open_one : (list : List ℕ) (announced : ℕ) (records state : List ℕ) {r s : ℕ} {stateʳ stateˢ : List ℕ}
    → (r ≡ open_answer list announced records state) × (stateʳ ≡ open_state list announced records state)
    → (s ≡ open_answer list announced records state) × (stateˢ ≡ open_state list announced records state)
    → (r ≡ s) × (stateʳ ≡ stateˢ)
open_one list announced records state p q = (one_answer p.0 q.0, one_answer p.1 q.1)

-- `drom_feed`
pub feed_one : (state piece records : List ℕ) {r s : ℕ} {stateʳ stateˢ recordsʳ recordsˢ : List ℕ}
    → (r ≡ feed_answer state piece records) × (stateʳ ≡ feed_state state piece records) × (recordsʳ ≡ feed_records state piece records)
    → (s ≡ feed_answer state piece records) × (stateˢ ≡ feed_state state piece records) × (recordsˢ ≡ feed_records state piece records)
    → (r ≡ s) × (stateʳ ≡ stateˢ) × (recordsʳ ≡ recordsˢ)
feed_one state piece records p q = (one_answer p.0 q.0, one_answer p.1 q.1, one_answer p.2 q.2)

-- `drom_finish`
pub finish_one : (state report : List ℕ) {r s : ℕ} {reportʳ reportˢ : List ℕ}
    → (r ≡ finish_answer state report) × (reportʳ ≡ finish_report state report)
    → (s ≡ finish_answer state report) × (reportˢ ≡ finish_report state report)
    → (r ≡ s) × (reportʳ ≡ reportˢ)
finish_one state report p q = (one_answer p.0 q.0, one_answer p.1 q.1)
