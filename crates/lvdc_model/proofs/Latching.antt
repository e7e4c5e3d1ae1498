-- What a copy latches in a step: its row of the votes, where it is not wrong; and always as many latches as its row has.
use Rattle.std.proofs.Common.{◌≡◌, ℕ, cond, Bool, true, false, ◌&&◌, ◌||◌, List, [], ◌∷◌, length, refl, ◌∙◌, inl, inr}
use Rattle.std.specs.List.{list_any}
use Rattle.std.proofs.lemmas.Bool.{true≢false, or_parts}
use Rattle.std.proofs.lemmas.List.{length-set}
use Rattle.lvdc_vote.specs.Bits.{TwoAre}
use Rattle.lvdc_vote.specs.Copies.{Copies}
use Rattle.lvdc_vote.specs.Latches.{hurt_by, hurt_by_all, lags, latched_by}
use Rattle.lvdc_vote.specs.declared.hurt.Hurt.{Hurt}
use Rattle.lvdc_vote.specs.declared.hurt.Hurt.TheVariants as kinds
use Rattle.lvdc_modules.specs.declared.bus.Bus.{Bus}
use Rattle.lvdc_fault.specs.Hurts.{hurts_by, hurts_on}
use Rattle.lvdc_fault.specs.Script.{makes_wrong, is_wrong, deafens, is_deaf}
use Rattle.lvdc_fault.specs.declared.event.Event.{Event}
use Rattle.lvdc_fault.specs.declared.event.Event.TheVariants.{Flip, Force, Lag, Deaf}
use Rattle.lvdc_model.specs.Voted.{inputs, next_copy}

-- ---- the votes

-- two of three that are not wrong equal the state
pub two_by : (p q r : Bool) (a b c s : List ℕ) → ((p && q) || (p && r) || (q && r)) ≡ false
    → (p ≡ false → a ≡ s) → (q ≡ false → b ≡ s) → (r ≡ false → c ≡ s) → TwoAre a b c s
two_by false false r a b c s two pa qb rc = inl (pa refl, qb refl)
two_by false true false a b c s two pa qb rc = inr (inl (pa refl, rc refl))
two_by false true true a b c s two pa qb rc = absurd (true≢false two)
two_by true false false a b c s two pa qb rc = inr (inr (qb refl, rc refl))
two_by true false true a b c s two pa qb rc = absurd (true≢false two)
two_by true true r a b c s two pa qb rc = absurd (true≢false two)

-- ---- lengths

-- hurts leave as many latches
length-hurt_by : (ws : List ℕ) (h : Hurt) → length (hurt_by ws h) ≡ length ws
length-hurt_by ws kinds.Lag = refl
length-hurt_by ws (kinds.Flip index mask) = length-set ws index _
length-hurt_by ws (kinds.Force index mask value) = length-set ws index _

length-hurt : (ws : List ℕ) (hs : List Hurt) → length (hurt_by_all ws hs) ≡ length ws
length-hurt ws [] = refl
length-hurt ws (h ∷ hs) = length-hurt (hurt_by ws h) hs ∙ length-hurt_by ws h

length-latched : (old new : List ℕ) (hs : List Hurt) (n : ℕ) → length old ≡ n → length new ≡ n → length (latched_by old new hs) ≡ n
length-latched old new hs n p q = length-hurt (cond (lags hs) old new) hs ∙ by_lag (lags hs)
  where
    by_lag : (b : Bool) → length (cond b old new) ≡ n
    by_lag true = p
    by_lag false = q

-- ---- a copy that is not wrong

-- an event that does not make a copy wrong does not hurt it
unhurt_by : (step m c : ℕ) (e : Event) → makes_wrong step m c e ≡ false → hurts_by step m c e ≡ []
unhurt_by step m c (Flip number copy first last index mask) h = rw h refl
unhurt_by step m c (Force number copy first last index mask value) h = rw h refl
unhurt_by step m c (Lag number copy first last) h = rw h refl
unhurt_by step m c _ h = refl

-- nothing is done to it
unhurt : (step m c : ℕ) (es : List Event) → is_wrong es step m c ≡ false → hurts_on step m c es ≡ []
unhurt step m c [] h = refl
unhurt step m c (e ∷ es) h =
    let parts = or_parts (makes_wrong step m c e) (list_any (makes_wrong step m c) es) h in
    rw (unhurt_by step m c e parts.0, unhurt step m c es parts.1) refl

-- nor does it make it deaf
heard_by : (step m c : ℕ) (e : Event) → makes_wrong step m c e ≡ false → deafens step m c e ≡ false
heard_by step m c (Deaf number copy first last) h = h
heard_by step m c _ h = refl

-- nor is it deaf
heard : (step m c : ℕ) (es : List Event) → is_wrong es step m c ≡ false → is_deaf es step m c ≡ false
heard step m c [] h = refl
heard step m c (e ∷ es) h =
    let parts = or_parts (makes_wrong step m c e) (list_any (makes_wrong step m c) es) h in
    rw (heard_by step m c e parts.0, heard step m c es parts.1) refl

-- it latches its row of the voted bus
pub right_copy : (script : List Event) (step m c : ℕ) (row : Bus → List ℕ) (old : List ℕ) (copies : List Copies) (bus : Bus)
    → is_wrong script step m c ≡ false → next_copy script step m c row old copies bus ≡ row bus
right_copy script step m c row old copies bus h = rw (unhurt step m c script h, heard step m c script h) refl

-- every copy keeps the row's length
pub length-next_copy : (script : List Event) (step m c n : ℕ) (row : Bus → List ℕ) (old : List ℕ) (copies : List Copies) (bus : Bus)
    → ((b : Bus) → length (row b) ≡ n) → length old ≡ n → length (next_copy script step m c row old copies bus) ≡ n
length-next_copy script step m c n row old copies bus fits sized =
    length-latched old _ (hurts_on step m c script) n sized (fits (inputs (is_deaf script step m c) copies c bus))
