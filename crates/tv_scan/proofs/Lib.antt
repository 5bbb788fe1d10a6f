mod Looks
mod ScanChain
mod ScanLaws
