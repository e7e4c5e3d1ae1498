use Rattle.std.proofs.Common.{refl}
use Rattle.lvdc_map.specs.Memory.{memory_of}
use Rattle.lvdc_plain.proofs.plain.Plain.new.Goals as goal

pub returns-clause-begins : goal.returns-clause-begins
returns-clause-begins g c =
    let h = c.started.ensures.holds (memory_of c.args.image.now) c.in_ok-words.ensures.memory in
    record {
      stands = record {
        unplugs = refl;
        ends = record {
          shows = record {
            banks = h.banks;
            place = h.place;
            a = h.a;
            pq = h.pq;
            saver = h.saver;
            pending = h.pending;
            hold = h.hold;
            memory = h.memory;
            log = c.in_ok-log.ensures.items;
            times = refl;
          };
          left = c.prepare_all.ensures.devices;
          stop = refl;
          times = refl;
        };
      };
      banks = h.banks;
      limit_is = refl;
      times = refl;
      end = refl;
    }
