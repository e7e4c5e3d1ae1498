-- Worked steps of deaf copies: what the bus carries where a phase reads no memory, or no port.
use Rattle.std.proofs.Common.{◌≡◌, ℕ, List, [], ◌∷◌, slice_set, slice_index_or, map, refl}
use Rattle.lvdc_map.specs.Address.{Spot}
use Rattle.lvdc_map.specs.Hop.{hop_of}
use Rattle.lvdc_fault.specs.declared.event.Event.TheVariants.{Deaf}
use Rattle.lvdc_modules.specs.declared.wanted.Wanted.{Wanted}
use Rattle.lvdc_modules.specs.declared.wanted.Wanted.TheVariants.{Nothing, Fetch, Operand, Store, PortRead, PortWrite}
use Rattle.lvdc_model.specs.Exchanges.{exchanges}
use Rattle.lvdc_model.specs.Trial.{Trial}
use Rattle.lvdc_model.specs.Voted.{Voted, voted_start}
use Rattle.lvdc_vote.specs.Bits.{majority, flipped}
use Rattle.lvdc_vote.specs.Copies.{settled, copy_of}
use Rattle.lvdc_word.specs.Cell.{with_stuck}

at : Spot
at = record { pair = 0; sector = 0; loc = 0 }

-- no program, and in step 9 copy 1 of the decoder and of the accumulator hears the copies 1
trial : Trial
trial =
    record {
      opening = record { image = []; banks = 0; start = hop_of 0o16; unplugs = []; devices = [] };
      script = Deaf 3 1 9 9 ∷ Deaf 5 1 9 9 ∷ [];
    }

-- before step 9: by vote it is phase B, but for copy 1 of the timer another one; copy 1 of the decoder has an instruction, and A is 7
before : ℕ → ℕ → Voted
before phase instruction =
    record (voted_start trial) {
      steps = 9;
      copies =
          slice_set
          (slice_set
          (slice_set (voted_start trial).copies 0 (settled (phase ∷ 0 ∷ []) (1 ∷ 0 ∷ []) (1 ∷ 0 ∷ [])))
          2 (settled (instruction ∷ []) (0 ∷ []) (0 ∷ [])))
          4 (settled (7 ∷ 0 ∷ []) (7 ∷ 0 ∷ []) (7 ∷ 0 ∷ []));
    }

-- copy 1 of a module, counted from 0, after the step with this exchange
copy_1 : ℕ → Voted → Wanted → List ℕ
copy_1 number v wanted = copy_of (slice_index_or (exchanges trial v wanted).copies number (settled [] [] [])) 0

-- phase A of the deaf decoder: INSTR is the syllable of the word from memory, which is 0 where none is read
no_word_from_memory : map (copy_1 2 (before 0 0o12345)) (Nothing ∷ Store at 9 ∷ PortRead 9 ∷ PortWrite 9 9 ∷ [])
    ≡ (0 ∷ []) ∷ (0 ∷ []) ∷ (0 ∷ []) ∷ (0 ∷ []) ∷ []
unfolding copy_1 before trial at majority flipped with_stuck
no_word_from_memory = refl

-- phase C of the deaf accumulator, with PIO 400: A is the word from the port, which is 0 where none is read
no_word_from_a_port : map (copy_1 4 (before 2 0o12400)) (Nothing ∷ Fetch at ∷ Operand at ∷ Store at 9 ∷ PortWrite 9 9 ∷ [])
    ≡ (0 ∷ 0 ∷ []) ∷ (0 ∷ 0 ∷ []) ∷ (0 ∷ 0 ∷ []) ∷ (0 ∷ 0 ∷ []) ∷ (0 ∷ 0 ∷ []) ∷ []
unfolding copy_1 before trial at majority flipped with_stuck
no_word_from_a_port = refl
