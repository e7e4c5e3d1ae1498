pub mod Campaign
