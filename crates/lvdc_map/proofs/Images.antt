-- An image that is loaded word by word.
use Rattle.std.proofs.Common.{◌≡◌, ℕ, zero, suc, ◌<◌, List, [], ◌∷◌, length, get_or, take, ap, arith}
use Rattle.lvdc_map.specs.Address.{number_of}
use Rattle.lvdc_map.specs.Memory.{Memory, filled_with, stored, loaded, IsMemory}
use Rattle.lvdc_map.specs.declared.placed.Placed.{Placed}

-- 0 at every address
pub zeros : (words : List ℕ) → length words ≡ 32768 → ((place d : ℕ) → place < 32768 → get_or words place d ≡ 0) → IsMemory words (filled_with 0)
zeros words all none = record { size = all; same = λ at ok. none (number_of at) 0 (omega (arith, ok.pair, ok.sector, ok.loc)) }

-- one more word
pub loaded-more : (image : List Placed) (at : ℕ) (p : Placed) (m : Memory) → at < length image → p ≡ get_or image at p →
    stored (loaded (take at image) m) p.at p.word ≡ loaded (take (suc at) image) m
loaded-more [] at p m within is = absurd (omega arith)
loaded-more (q ∷ qs) zero p m within is = ap (λ (r : Placed). stored m r.at r.word) is
loaded-more (q ∷ qs) (suc at) p m within is = loaded-more qs at p (stored m q.at q.word) (omega arith) is
